pub mod Scores
pub mod Turning
pub mod Mirror
pub mod Bounds
pub mod Machine
pub mod Laws
pub mod Symmetry
pub mod Words
