pub mod Owed
pub mod Reading
