pub mod Passing
pub mod Lawful
pub mod Ranges
pub mod Quorums
pub mod Tested
pub mod Whole
pub mod Asked
