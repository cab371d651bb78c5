pub mod Sources
pub mod Proposing
pub mod Padded
pub mod Proposed
pub mod Batch
pub mod Wanted
pub mod Changes
pub mod Entries
