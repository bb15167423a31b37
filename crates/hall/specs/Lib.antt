pub mod Steady
pub mod Join
pub mod Working
pub mod Called
pub mod Parts
