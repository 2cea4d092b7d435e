-- The definitions that the contracts of the tray with its summary cite, and what holds of them over every list of calls, in the order to read them in.
pub mod SummaryTray
pub mod Calls
pub mod KeptSummary
