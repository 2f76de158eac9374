pub mod Tables
pub mod Lengths
pub mod Delaying
pub mod Striking
