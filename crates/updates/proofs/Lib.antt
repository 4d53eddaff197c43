pub mod Laws
pub mod Keeping
pub mod BackupLaws
pub mod Telling
pub mod Promises
pub mod Named
