pub mod BusReading
pub mod Columns
pub mod NetworkReading
pub mod Networks
pub mod ReactanceReading
