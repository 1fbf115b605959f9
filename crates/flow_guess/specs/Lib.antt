pub mod Guesses
pub mod Links
pub mod Rounding
pub mod Told
