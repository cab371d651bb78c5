pub mod KnnSearch
pub mod Descent
pub mod Entering
pub mod Laws
