pub mod Canonical
pub mod Program
