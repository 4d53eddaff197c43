pub mod Checksum
pub mod Records
pub mod Steps
pub mod Turns
pub mod Replay
