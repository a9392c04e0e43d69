pub mod Bed
pub mod Refused
pub mod Workspace
