pub mod Splitting
pub mod Levels
pub mod Lists
pub mod TwoEnds
pub mod SplitBlocks
mod Examples
