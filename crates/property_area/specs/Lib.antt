pub mod Find
pub mod Walked
pub mod Value
pub mod Lookup
pub mod Backup
