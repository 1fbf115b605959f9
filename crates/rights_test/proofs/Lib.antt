pub mod BusSteps
pub mod FitLemmas
pub mod PaySteps
