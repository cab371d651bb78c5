pub mod Fronts
pub mod WordLaws
pub mod Counts
pub mod KeyedOrder
pub mod Insertions
pub mod Spreads
