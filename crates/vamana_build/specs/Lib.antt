pub mod Builds
pub mod Wanted
pub mod Changes
pub mod Building
pub mod VamanaIndex
pub mod Settled
