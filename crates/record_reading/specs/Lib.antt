pub mod Gathering
pub mod Records
pub mod Steps
