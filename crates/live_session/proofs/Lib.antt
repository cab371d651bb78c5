pub mod Rows
pub mod Marks
pub mod Places
pub mod SideBySide
pub mod Leading
pub mod Together
