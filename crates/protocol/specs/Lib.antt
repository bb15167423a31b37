pub mod Law
pub mod Steps
pub mod Bounds
pub mod Run
pub mod Claims
pub mod Three
pub mod Desk
pub mod Ready
