-- The laws of the places.
pub mod First
pub mod Searches
pub mod Held
pub mod Kept
pub mod Found
pub mod Same
pub mod SamplesBack
pub mod Signs
