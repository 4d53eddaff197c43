pub mod Steps
pub mod Allocate
pub mod View
