pub mod ListLemmas
pub mod PayLemmas
pub mod BlockFlows
pub mod OfferLemmas
pub mod RowLemmas
pub mod MoneyLemmas
pub mod WorthLemmas
