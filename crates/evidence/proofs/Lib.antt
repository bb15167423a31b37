pub mod Backers
pub mod Issues
pub mod Search
pub mod Meets
