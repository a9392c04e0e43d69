pub mod Claims
pub mod Beds
