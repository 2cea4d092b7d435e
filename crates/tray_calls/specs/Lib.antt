-- The definitions that the contracts of tray_calls cite, and what holds of them.
pub mod TrayCalls
pub mod RefusedCalls
pub mod AnsweredCalls
