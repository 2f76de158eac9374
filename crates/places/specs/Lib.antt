pub mod Cells
pub mod Delays
pub mod Lengths
