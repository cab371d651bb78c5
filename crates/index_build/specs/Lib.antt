pub mod Stamping
pub mod IndexOf
pub mod Limits
pub mod Built
