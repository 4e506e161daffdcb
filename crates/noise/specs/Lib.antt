pub mod Sources
pub mod Lawfuls
