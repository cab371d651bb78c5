pub mod Gathering
pub mod Halving
pub mod Inserting
pub mod Marking
pub mod Putting
pub mod Settling
pub mod Taking
