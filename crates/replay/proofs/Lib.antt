pub mod ChecksumLaws
pub mod ReplayLaws
pub mod Named
