pub mod Samples
pub mod Sides
pub mod Symmetries
pub mod Tallies
pub mod Words
