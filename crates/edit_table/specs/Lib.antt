pub mod EditTable
