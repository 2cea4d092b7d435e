-- The definitions that the contracts of the tray cite, and what holds of them over every list of calls, in the order to read them in.
pub mod Tray
pub mod State
pub mod Calls
pub mod EveryListOfCalls
