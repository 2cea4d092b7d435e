-- The definitions that the contracts of the writer cite, in the order to read them in, and what holds of them; then what inner functions ask for.
pub mod Questions
pub mod RightWriting
pub mod Writing
pub mod OneRightWriting
pub mod WrittenSheets
pub mod Examples
pub mod Preconditions
