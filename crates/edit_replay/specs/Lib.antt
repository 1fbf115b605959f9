pub mod ReplayLaws
pub mod Replays
pub mod SessionStates
