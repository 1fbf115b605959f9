pub mod CostCurves
pub mod Laws
