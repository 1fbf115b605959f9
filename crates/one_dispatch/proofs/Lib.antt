pub mod AllLimits
pub mod OneFirst
pub mod PointOrder
