pub mod Words
pub mod Order
pub mod Medoid
pub mod Levels
pub mod Generator
