mod AnswerTests
pub mod BlockChoices
pub mod Clamps
pub mod Completeness
pub mod DualLists
pub mod FrameLaws
pub mod GrowthLaws
pub mod LawsOfSolving
pub mod MarketPoints
mod ModestChoices
mod ModestMarkets
mod ModestNumbers
pub mod ModestClears
pub mod PairCases
mod RangeRows
pub mod RoomBounds
pub mod RowOrder
pub mod RowSums
pub mod SoftRows
pub mod SolvedMarkets
pub mod StuckMarkets
pub mod SystemLaws
pub mod VariableLaws
mod WorkedCases
