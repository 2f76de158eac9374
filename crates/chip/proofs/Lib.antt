pub mod Sizes
pub mod Bits
pub mod Counts
pub mod Kept
