pub mod Cells
pub mod CostRows
