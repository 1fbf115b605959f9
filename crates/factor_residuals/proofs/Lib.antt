pub mod ColumnLemmas
pub mod InjectionLemmas
pub mod LoopLemmas
pub mod NodeLemmas
pub mod ShortLoops
