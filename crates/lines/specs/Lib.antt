pub mod Digits
pub mod Rule
pub mod Parts
pub mod Lines
pub mod Left
pub mod Open
