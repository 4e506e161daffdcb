pub mod Order
pub mod Listing
pub mod Means
