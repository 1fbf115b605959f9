mod ColumnLemmas
mod ColumnSteps
mod ListSteps
pub mod Lists
mod ListedOutages
pub mod Made
mod Networks
mod OutageColumns
mod Recips
mod Records
mod Scaling
pub mod Sizes
