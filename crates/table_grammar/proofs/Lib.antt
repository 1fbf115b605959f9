mod CellsRead
mod LinesRead
mod LinesDerived
mod TextsDerived
pub mod Framed
mod WorkedTexts
