pub mod Fresh
pub mod Add
