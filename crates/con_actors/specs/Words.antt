-- The words of the code and of laws about the files of the same names in the folder above, which a reader need not believe.
pub mod Desk
pub mod Runs
pub mod Second
pub mod Sender
pub mod Worker
