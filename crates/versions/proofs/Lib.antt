pub mod Keeping
pub mod Publishing
pub mod Searching
pub mod Settings
