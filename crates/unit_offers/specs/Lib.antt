pub mod Adding
pub mod OfferLaws
pub mod UnitOffers
