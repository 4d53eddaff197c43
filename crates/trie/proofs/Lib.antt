pub mod HeaderLaws
pub mod TrieLaws
pub mod LinkLaws
pub mod Bounds
pub mod Promises
