pub mod OfferTable
pub mod Offers
pub mod Edits
pub mod EditLaws
pub mod Reserving
