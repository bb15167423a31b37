pub mod Lawful
pub mod Plain
pub mod Oil
pub mod Levy
pub mod Any
pub mod Clerk
