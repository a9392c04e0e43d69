pub mod CostWeights
pub mod Lastings
pub mod Truth
