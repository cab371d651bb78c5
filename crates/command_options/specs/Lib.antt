pub mod Names
pub mod Verbs
pub mod Options
pub mod Shapes
pub mod Forms
pub mod Settings
