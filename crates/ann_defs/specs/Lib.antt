pub mod Distance
pub mod Ordered
pub mod Nearness
pub mod Graph
pub mod GreedySearch
pub mod RobustPrune
pub mod BatchInsert
pub mod Laws
