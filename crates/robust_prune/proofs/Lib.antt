pub mod Keeping
pub mod Sorting
pub mod Laws
mod Recent
pub mod TwoLists
pub mod Apart
pub mod Covering
