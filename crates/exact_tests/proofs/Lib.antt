pub mod NewNames
pub mod KeptColumns
