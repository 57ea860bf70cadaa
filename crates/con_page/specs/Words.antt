-- The words of the code and of laws about the files of the same names in the folder above, which a reader need not believe.
pub mod Echo
pub mod Fit
pub mod Page
pub mod Setters
