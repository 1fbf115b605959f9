pub mod TriangleMarkets
pub mod NothingNamed
pub mod RestartLemmas
