pub mod Laws
pub mod StoreLaws
pub mod Promises
pub mod Named
