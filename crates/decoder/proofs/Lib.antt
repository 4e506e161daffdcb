pub mod Running
pub mod Opened
pub mod Stepping
pub mod Going
pub mod Exactly
pub mod Runs
pub mod Imaged
pub mod Mirroring
