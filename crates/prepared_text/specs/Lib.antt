pub mod OfferText
pub mod OfferLaws
pub mod OutageText
pub mod OutageLaws
pub mod PenaltyText
pub mod PenaltyLaws
