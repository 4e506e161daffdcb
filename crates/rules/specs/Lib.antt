pub mod Meaning
pub mod Kinds
pub mod Chosen
pub mod Laws
