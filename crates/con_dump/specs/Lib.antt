-- What a reader must believe: the text of a dump.
pub mod Dump
