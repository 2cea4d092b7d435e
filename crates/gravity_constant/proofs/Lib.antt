-- The laws of the constant, callees first.
pub mod QuestionOrder
pub mod Cases
pub mod Enclosure
pub mod WholeNumbers
pub mod Fits
pub mod Right
pub mod AnyFractions
pub mod Forced
pub mod LeftFree
