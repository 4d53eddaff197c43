pub mod Keeping
pub mod Used
pub mod Promises
pub mod Named
