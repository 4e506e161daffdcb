pub mod Fitting
pub mod Filtering
pub mod Circling
pub mod Accepting
