pub mod Course
pub mod Standing
pub mod Found
pub mod Known
pub mod Suffices
pub mod Rule
pub mod Visiting
pub mod Ready
