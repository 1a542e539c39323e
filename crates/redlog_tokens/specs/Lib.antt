pub mod TerminalList
pub mod Longest
pub mod Ahead
pub mod OnePiece
pub mod Counting
pub mod Spans
pub mod Pieces
