pub mod BoundLemmas
pub mod Casts
pub mod PartLemmas
pub mod LookLemmas
pub mod ReachLemmas
pub mod ScreenLemmas
pub mod TakenLemmas
pub mod RoomLemmas
mod UseLemmas
pub mod TestMarkets
