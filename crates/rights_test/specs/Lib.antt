pub mod Fits
pub mod Paid
pub mod RightsLaws
pub mod RightsTable
