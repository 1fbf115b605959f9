pub mod Bytes
pub mod Pieces
pub mod TokenLists
pub mod Cursors
