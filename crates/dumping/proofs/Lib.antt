pub mod Counting
pub mod Filling
pub mod Laws
pub mod Promises
pub mod Reaching
pub mod Totals
pub mod Named
