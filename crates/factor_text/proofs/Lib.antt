mod NumbersRead
mod TextsDerived
pub mod RecordsRead
pub mod MadeTables
mod WritingLemmas
pub mod Lengths
