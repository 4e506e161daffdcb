pub mod Seven
pub mod Means
