pub mod Capi
pub mod View
