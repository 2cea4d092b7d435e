-- The laws of written sheets, in an order in which none leans on a later one.
pub mod QuestionOrder
pub mod Pairs
pub mod Filled
pub mod Written
pub mod ReadBack
pub mod Described
pub mod OneSheet
pub mod Right
pub mod WrittenSheets
pub mod Examples
