pub mod Order
pub mod NearOrder
pub mod Members
pub mod SearchStates
pub mod GoodRows
pub mod Alike
pub mod Ends
pub mod LeastFirst
pub mod GoodGraphs
mod Examples
