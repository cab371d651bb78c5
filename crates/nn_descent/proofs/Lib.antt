pub mod SidesFacts
pub mod GraphFacts
pub mod Improving
