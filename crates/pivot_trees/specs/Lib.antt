pub mod Leaves
pub mod Grown
pub mod Blocks
pub mod Tasks
