pub mod Numbers
pub mod Items
pub mod Kept
pub mod Ranges
pub mod FewWords
pub mod SpareNames
