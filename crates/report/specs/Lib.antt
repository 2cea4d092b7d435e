-- The definitions that the contracts of the report cite, in the order to read them in: which bytes are printed for a sheet, and a statement about the longest
-- input; and, for inner functions alone, how the lines are read from the worked sheet, and what they ask of their callers.
pub mod Text
pub mod LongestInput
pub mod FromRecords
pub mod Preconditions
