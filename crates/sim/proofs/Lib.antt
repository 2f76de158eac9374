pub mod Works
pub mod Makings
