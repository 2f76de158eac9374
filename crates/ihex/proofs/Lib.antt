pub mod Heads
pub mod Runs
pub mod Judged
pub mod Currents
pub mod Puts
pub mod Laid
pub mod Turns
pub mod Sole
