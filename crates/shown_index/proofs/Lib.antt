-- The laws of procedure B's index, each leaning on those before it. Crate index cites Marks.
pub mod Growth
pub mod Shows
pub mod Halving
pub mod Marks
pub mod ThresholdEntries
