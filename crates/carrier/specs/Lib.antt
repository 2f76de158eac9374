pub mod Crossing
pub mod Crossings
