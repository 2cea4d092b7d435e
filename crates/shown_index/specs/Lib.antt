-- The definitions that the contracts of procedure B's index cite, in the order to read them in: what a reader of crate index has to believe
-- (Terms), then what nobody has to: what fractions show of an index, the program's choice, and what inner functions ask for.
-- ThresholdTable is generated and only looked up.
pub mod Terms
pub mod RightIndex
pub mod ChosenIndex
pub mod Preconditions
pub mod ThresholdTable
