-- What a reader must believe: the form of an answer, what types keep, which lines of a history are told, and the laws.
pub mod Formed
pub mod Kept
pub mod Told
pub mod Laws
-- The words of the code and of laws about these files, which a reader need not believe.
pub mod Words
