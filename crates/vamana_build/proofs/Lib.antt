pub mod Plans
pub mod NewRowFacts
pub mod Stepping
pub mod NextBatch
pub mod SettledRows
pub mod Factors
