pub mod Cells
pub mod TableTexts
pub mod Worked
