pub mod Firsts
pub mod Memory
