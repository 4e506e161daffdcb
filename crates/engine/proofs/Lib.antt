pub mod Rows
pub mod Between
pub mod Lows
pub mod Marked
pub mod Sweepings
pub mod Packs
pub mod Parity
pub mod Opens
