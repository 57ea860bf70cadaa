-- What a reader must believe: how a session by threads, by turns, with a second terminal and a generated one end.
pub mod Foretold
pub mod Generating
pub mod Mirroring
pub mod Sessions
pub mod Summary
-- Laws of how they end, for the crates above.
pub mod Laws
