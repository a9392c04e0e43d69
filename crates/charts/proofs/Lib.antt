pub mod CusumBlocks
pub mod RunsByLast
pub mod ZoneMembers
