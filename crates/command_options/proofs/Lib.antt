pub mod Fits
pub mod Dashes
pub mod EachVerb
