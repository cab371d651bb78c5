pub mod Workers
pub mod Progress
pub mod StolenRounds
pub mod Forking
