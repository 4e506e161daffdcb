pub mod Turns
pub mod Stands
pub mod Opening
pub mod Sweeps
pub mod Packing
