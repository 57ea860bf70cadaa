-- The words of the code and of laws about the files of the same names in the folder above, which a reader need not believe.
pub mod Buffer
pub mod Buffers
pub mod Lending
pub mod Resize
pub mod Stamps
pub mod View
