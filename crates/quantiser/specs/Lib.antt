pub mod Limits
pub mod Shapes
pub mod Levels
pub mod Runs
pub mod Laws
