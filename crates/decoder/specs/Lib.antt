pub mod Memory
pub mod Standing
pub mod Answering
pub mod Openings
pub mod Replays
pub mod Images
pub mod Trials
