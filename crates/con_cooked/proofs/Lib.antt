pub mod Finishing
pub mod Found
pub mod Table
pub mod Waking
