pub mod Data
pub mod WholeSumLaws
