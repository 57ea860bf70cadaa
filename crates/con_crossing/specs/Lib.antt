-- Laws alone; a reader has nothing here to believe.
pub mod Closures
pub mod Consoles
