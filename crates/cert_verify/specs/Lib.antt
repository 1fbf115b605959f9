pub mod Certificates
pub mod Certified
pub mod Laws
pub mod Naming
pub mod Reasons
pub mod Stops
