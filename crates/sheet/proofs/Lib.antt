-- The laws of sheets: what the proofs of the functions cite, and the crates above.
pub mod QuestionOrder
pub mod FailsNone
pub mod Within
pub mod Records
pub mod Worked
pub mod RecordsAfter
pub mod Demand3
pub mod Examples
