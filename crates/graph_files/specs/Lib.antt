pub mod Grammar
pub mod Header
pub mod Reading
pub mod Stamping
pub mod Writing
