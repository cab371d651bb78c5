pub mod IndexFacts
pub mod StampFacts
