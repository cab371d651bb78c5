pub mod SearchGraph
pub mod NndIndex
pub mod Sides
