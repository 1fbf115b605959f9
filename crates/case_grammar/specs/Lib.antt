pub mod Gaps
pub mod Values
pub mod Statements
pub mod CaseTexts
pub mod Worked
