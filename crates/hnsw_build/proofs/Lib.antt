pub mod LevelFacts
pub mod GoodLayers
pub mod EntryFacts
pub mod Ranges
pub mod PlanFacts
pub mod Memory
pub mod PointRows
pub mod LayersFacts
pub mod LayerBlocks
pub mod LayerBatch
pub mod Stepping
pub mod NextBatch
pub mod NewLayers
pub mod IndexFacts
mod Examples
