pub mod ReplayTextLaws
pub mod ReplayTexts
