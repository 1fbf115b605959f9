pub mod FaceLemmas
pub mod FirstLemmas
pub mod HeldLemmas
pub mod NextLemmas
pub mod NumberLemmas
pub mod ReturnLemmas
pub mod StillLemmas
