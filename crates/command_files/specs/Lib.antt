pub mod OnlyReads
pub mod Reading
pub mod Standing
