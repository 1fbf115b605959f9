mod Curves
mod Cuts
mod EqualCuts
mod Kept
mod Outputs
mod Slopes
mod Tiling
mod Widths
