pub mod Cursor
pub mod Lent
pub mod Searched
pub mod Stepping
