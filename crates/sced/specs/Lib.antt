pub mod Asked
pub mod Headline
pub mod Promise
pub mod Runs
pub mod Told
