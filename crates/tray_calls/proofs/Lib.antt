-- The laws of the calls.
pub mod Calls
pub mod Refused
pub mod Answered
