pub mod Ended
pub mod Tells
pub mod Gather
pub mod Neither
