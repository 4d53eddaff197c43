pub mod Dump
pub mod View
