pub mod AddingLaws
pub mod ColumnLists
pub mod HoldingLaws
pub mod MarkedLaws
pub mod NameLists
pub mod NamePlaces
pub mod PutInLemmas
