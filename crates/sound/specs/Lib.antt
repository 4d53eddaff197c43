pub mod Tree
pub mod Sound
pub mod Ways
pub mod Links
pub mod Objects
