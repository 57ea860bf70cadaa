-- The words of the code and of laws about the files of the same names in the folder above, which a reader need not believe.
pub mod Act
pub mod Answering
pub mod Lines
pub mod Pieces
pub mod Reads
pub mod Serving
