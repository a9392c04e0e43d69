pub mod PairsRuns
pub mod HeadStartRuns
pub mod UnionRuns
pub mod ConfirmRuns
pub mod ResetRuns
