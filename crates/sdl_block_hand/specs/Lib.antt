pub mod Work
pub mod Puts
pub mod PutsBy
pub mod Apart
