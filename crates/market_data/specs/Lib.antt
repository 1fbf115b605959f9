pub mod Participants
pub mod Scales
pub mod WholeSums
