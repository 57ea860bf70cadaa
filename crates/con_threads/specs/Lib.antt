-- What a reader must believe: the console in the lock, what an actor has seen of it, and what each thread promises.
pub mod Ledger
pub mod Scribe
pub mod Post
pub mod Clients
pub mod Sides
pub mod Painters
pub mod Writers
-- Laws of these words.
pub mod LedgerLaws
pub mod ScribeLaws
