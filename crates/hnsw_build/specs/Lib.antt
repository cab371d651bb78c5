pub mod Layering
pub mod LayeredInsert
pub mod HnswBuilds
pub mod HnswIndex
pub mod Building
pub mod Wanted
pub mod Grown
pub mod Laws
