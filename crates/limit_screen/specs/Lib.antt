pub mod Bounds
pub mod Flows
pub mod Reaching
pub mod Rooms
pub mod Screening
