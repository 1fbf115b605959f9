mod Counts
mod Degrees
mod Faults
mod Reading
