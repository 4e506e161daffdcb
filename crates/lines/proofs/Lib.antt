pub mod Pairs
pub mod Words
pub mod Feeds
