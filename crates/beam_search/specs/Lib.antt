pub mod Room
pub mod Measured
pub mod Lending
pub mod Serving
