pub mod Searched
pub mod Finds
pub mod Sorting
pub mod Pigeons
pub mod Sets
pub mod Tables
pub mod Passing
pub mod Meaning
