pub mod Bytes
pub mod Frames
pub mod Slots
pub mod Packed
pub mod Certificates
pub mod Typed
pub mod Bothways
pub mod Shown
