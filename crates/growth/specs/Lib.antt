pub mod Plug
