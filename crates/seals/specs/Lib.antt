pub mod Turned
pub mod Keyed
pub mod Sheet
pub mod Any
