pub mod Lawful
pub mod LiveAnswers
pub mod Rows
pub mod SideBySide
pub mod Asked
pub mod Askers
pub mod Builder
