pub mod Marks
pub mod Machine
pub mod Model
