pub mod Blocks
pub mod Flat
pub mod Index
pub mod Layers
pub mod Members
pub mod Stamps
pub mod View
pub mod WellFormed
