pub mod Reading
pub mod BodyLemmas
pub mod RowLemmas
pub mod DeclarationLemmas
pub mod Texts
