pub mod Check
pub mod View
