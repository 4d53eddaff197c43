pub mod Laws
pub mod OrderLaws
pub mod Dotted
pub mod Promises
