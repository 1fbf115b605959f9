pub mod Cells
pub mod BusRows
pub mod Units
pub mod BranchRows
pub mod LiveNetworks
pub mod Rooms
pub mod Worked
