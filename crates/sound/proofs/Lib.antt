pub mod Inside
pub mod Holding
pub mod Framing
pub mod Counting
pub mod Objects
pub mod OnePath
pub mod OneTree
pub mod Promises
