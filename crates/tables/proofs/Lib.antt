pub mod Joins
pub mod SequencesListed
pub mod TableRecurrence
pub mod FillTurns
pub mod RollCourses
pub mod ExactCounts
