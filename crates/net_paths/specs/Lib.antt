pub mod Chains
pub mod Searching
pub mod Connection
pub mod Detours
pub mod Loops
