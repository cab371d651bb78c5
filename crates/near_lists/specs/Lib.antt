pub mod Gathered
pub mod Marks
