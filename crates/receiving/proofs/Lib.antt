pub mod Reporting
pub mod Texts
pub mod Answered
