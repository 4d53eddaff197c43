pub mod Laws
pub mod Reaching
pub mod Promises
pub mod Named
