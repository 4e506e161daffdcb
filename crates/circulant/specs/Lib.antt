pub mod Circles
pub mod Turns
pub mod Means
