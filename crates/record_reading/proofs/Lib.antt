pub mod GatherLemmas
pub mod StepLemmas
