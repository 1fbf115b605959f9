pub mod Certificates
pub mod FractionTexts
pub mod Grammar
pub mod Laws
pub mod Written
