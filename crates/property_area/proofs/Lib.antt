pub mod FindLaws
pub mod ValueLaws
pub mod BackupLaws
pub mod AnswerLaws
pub mod Promises
pub mod Named
