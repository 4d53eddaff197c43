pub mod OrderLaws
pub mod PathLaws
pub mod Named
