pub mod NamedLemmas
pub mod CarriedLemmas
pub mod OwnLemmas
pub mod BlockFlows
pub mod BoundLemmas
pub mod RoomLemmas
