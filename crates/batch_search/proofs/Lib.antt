pub mod Blocks
pub mod Rounds
pub mod Short
