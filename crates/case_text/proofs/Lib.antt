mod CostsLemmas
pub mod RowLemmas
pub mod NestLemmas
pub mod StatementLemmas
pub mod EvenLemmas
