-- What the rows say: lines that are edited, and what texts tell; what terminals show of bytes; numbers, colours and cells.
pub mod Screens
pub mod Lines
pub mod Texts
pub mod Terminals
pub mod Units
pub mod Values
