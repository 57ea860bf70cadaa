pub mod Ledgering
pub mod Painting
pub mod Passing
pub mod Posting
pub mod Rows
pub mod Scribing
pub mod Writing
