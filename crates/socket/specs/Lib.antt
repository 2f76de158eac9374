pub mod Registers
pub mod Sockets
pub mod Vacancy
