pub use Rattle.sdl_app_file_commands.specs.Running
pub mod Numbering
pub mod Outcomes
pub mod Words
