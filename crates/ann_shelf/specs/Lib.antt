pub mod Faults
pub mod Files
pub mod Shown
pub mod Written
pub mod Calls
pub mod Pieces
pub mod NamedFiles
pub mod MemWords
