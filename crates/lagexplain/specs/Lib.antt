pub mod Entries
pub mod Explanations
pub mod Nearest
pub mod TextPlaces
