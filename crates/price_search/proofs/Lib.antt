mod BoundLists
mod CapLemmas
mod CapSums
mod EnergyLemmas
mod FirstLemmas
mod KeptLemmas
pub mod NumberLaws
mod OnlyPointLemmas
mod PosedLemmas
mod ReadingLemmas
mod RowLemmas
mod SettlingLemmas
mod GreatestLemmas
