-- The definitions that the contracts of the lines cite, and examples, in the order to read them in: which bytes a line is; document 01's lines; how a
-- line is read from the record of its pair.
pub mod Lines
pub mod Examples
pub mod FromRecord
