pub mod Candidates
pub mod Pruned
pub mod Nearest
pub mod Apart
