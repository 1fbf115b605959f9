mod BalanceSteps
pub mod ChangeLemmas
pub mod EnergyAlone
pub mod Excesses
pub mod FarkasLaw
pub mod FarkasParts
mod FarkasRows
pub mod LimitCases
pub mod LinePenalties
pub mod ListSteps
pub mod LostLemmas
pub mod MarketSums
pub mod MorePlaces
pub mod OneSidedDuals
pub mod Optimum
pub mod PickupLemmas
pub mod PlaceLists
pub mod PlaceSums
pub mod PlainMarkets
pub mod PutInSteps
mod ReserveCases
mod ReserveLaw
pub mod ReserveSums
pub mod RightFits
mod RightsCases
mod RightsLaw
pub mod RoomLemmas
pub mod RowLaws
pub mod RowMembers
pub mod Rows
pub mod SoftCases
pub mod StopLemmas
pub mod SumParts
pub mod SumSteps
pub mod TableLemmas
mod UnitCases
pub mod UnitPrices
pub mod WholeDispatch
