pub mod Table
pub mod Site
