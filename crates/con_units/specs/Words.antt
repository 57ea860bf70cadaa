-- The words of the code and of laws about the files of the same names in the folder above, which a reader need not believe.
pub mod Attr
pub mod Limits
pub mod Shade
pub mod Split
pub mod Stored
pub mod Units
pub mod Utf8
pub mod View
