pub mod PrintLawProofs
pub mod PrintLemmas
pub mod RefusalLemmas
pub mod StepLemmas
