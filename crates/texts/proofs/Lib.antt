pub mod Laws
pub mod NumberLaws
pub mod Feeding
pub mod Promises
pub mod Named
