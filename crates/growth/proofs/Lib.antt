pub mod Cover
pub mod Focus
pub mod Rules
pub mod Joining
pub mod SoundPut
