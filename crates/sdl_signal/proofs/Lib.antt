pub mod Carried
mod InOrder
pub mod Rows
pub mod Named
pub mod Numbers
pub mod Texts
pub mod ValueTexts
pub mod Cutting
pub mod LineParts
pub mod Rules
pub mod Words
pub mod LineText
pub mod OneLine
pub mod Spaced
