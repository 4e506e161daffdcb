pub mod Counts
pub mod Growth
pub mod Nans
pub mod Above
pub mod Signs
pub mod Steps
pub mod Zeros
