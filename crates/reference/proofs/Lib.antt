-- What is shown of the definitions, in the order in which one file cites another.
pub mod Refusals
pub mod Entries
pub mod Asked
pub mod Places
pub mod Rows
pub mod Sources
pub mod StraightLines
pub mod Exact
pub mod Rise
pub mod Bounds
pub mod Range
pub mod Climb
pub mod Examples
