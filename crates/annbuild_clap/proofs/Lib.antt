pub mod Computed
pub mod ReadBack
pub mod Nested
pub mod SetWords
pub mod ByClap
