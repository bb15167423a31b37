pub mod Values
pub mod Printing
