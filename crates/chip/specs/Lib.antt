pub mod Rules
pub mod Runs
pub mod Laws
pub mod Commands
pub mod Signatures
