pub mod SoftLines
pub mod Refusals
pub mod Laws
