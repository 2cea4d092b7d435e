-- The laws of the pair operation, each leaning on those before it. Crates above cite PairNumber, Right, Fits and Order.
pub mod PairNumber
pub mod QuestionOrder
pub mod ProcedureA
pub mod Consistent
pub mod Determined
pub mod Cases
pub mod Numerators
pub mod OilLogarithms
pub mod OilNumerators
pub mod Right
pub mod Fits
pub mod Order
pub mod NearestIndex
pub mod Examples
