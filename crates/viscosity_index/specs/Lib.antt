-- The definition that the contract of the pair call cites.
pub mod PairCall
