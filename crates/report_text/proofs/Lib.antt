pub mod Amounts
pub mod EnergyReports
pub mod LimitReading
pub mod OutcomeReading
pub mod ReportLemmas
pub mod ReportReading
pub mod ReserveLemmas
pub mod ReserveReading
