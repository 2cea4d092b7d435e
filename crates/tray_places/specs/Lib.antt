-- The definitions that the contracts of tray_places cite, in the order to read them in.
pub mod Samples
pub mod Places
pub mod Counts
