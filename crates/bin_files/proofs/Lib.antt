pub mod Pieces
pub mod RowLaws
pub mod Spelled
pub mod Texts
pub mod Verdicts
pub mod Turned
pub mod SamePoints
