pub mod Laws
pub mod WrittenLaws
pub mod Lies
pub mod Promises
