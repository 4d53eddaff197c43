pub mod Settled
pub mod Circle
