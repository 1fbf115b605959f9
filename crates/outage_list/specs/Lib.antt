pub mod Listing
pub mod PickupRecords
pub mod UnitListing
