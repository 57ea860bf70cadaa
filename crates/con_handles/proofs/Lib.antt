pub mod Numbers
pub mod Listed
pub mod Counting
pub mod Tables
