pub mod Points
pub mod Read
pub mod Rows
pub mod Write
pub mod Laws
