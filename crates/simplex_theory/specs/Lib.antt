pub mod States
pub mod Stepped
pub mod Steps
pub mod Stuck
pub mod Trails
