pub mod Comparing
pub mod Frames
pub mod Sides
