pub mod History
pub mod Lack
pub mod Stays
pub mod Calls
pub mod Demand
