-- What a reader must believe: who has a pass of the book, what is so of a row of threads, passes that were taken in, and a session's threads.
pub mod Crews
pub mod Abreast
pub mod Taking
pub mod Session
