pub mod Building
pub mod FlowSystems
pub mod Lines
