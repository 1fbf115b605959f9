pub mod FaultReading
pub mod FrameReports
pub mod NeedLemmas
pub mod ReplayReading
pub mod StepLines
pub mod TextLemmas
