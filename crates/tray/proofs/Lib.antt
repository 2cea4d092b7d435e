-- The laws of the tray.
pub mod Questions
pub mod Steps
pub mod EveryList
pub mod Walk
pub mod OneMore
