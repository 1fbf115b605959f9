mod NetworkUnits
mod OfferLemmas
mod RangeEnds
mod Stairs
