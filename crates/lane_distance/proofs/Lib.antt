pub mod Gaps
pub mod Sums
