pub mod BusLemmas
pub mod PlaceLemmas
pub mod RowLemmas
pub mod ReactanceLemmas
