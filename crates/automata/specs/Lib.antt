pub mod Lengths
pub mod Runs
pub mod Straights
pub mod Directs
pub mod Masks
