pub mod Votes
pub mod Issue
pub mod Tags
pub mod Forgery
