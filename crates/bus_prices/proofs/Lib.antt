pub mod PriceLemmas
pub mod OwnLemmas
