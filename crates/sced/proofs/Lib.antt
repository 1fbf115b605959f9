pub mod AnswerLemmas
pub mod AskedLemmas
pub mod EndLemmas
mod FactorCheckLemmas
mod FactorLemmas
mod FailureLemmas
mod HeadlineLemmas
mod LeftLemmas
mod PromiseLemmas
mod RightsLemmas
mod RunLemmas
