-- The facts of arithmetic and lists that the crates lean on, each file for itself.
pub mod Computed
pub mod Contradiction
pub mod Difference
pub mod Order
pub mod Powers
pub mod Rising
