pub mod Frames
pub mod Reports
pub mod Text
pub mod Received
