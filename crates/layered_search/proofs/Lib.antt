pub mod OneFound
pub mod Walking
pub mod HeldRows
pub mod Enterable
pub mod Stepping
pub mod Descending
mod Examples
