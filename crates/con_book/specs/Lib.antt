-- What a reader must believe: what a list of entries means, what a pass knows and what a turn does to it, and the small machine.
pub mod Counted
pub mod Counting
pub mod History
pub mod Passes
pub mod Turn
-- Laws of these words, for the crates above.
pub mod Laws
-- The code's own words: the rule of the lock, and what each of its steps tells.
pub mod Held
pub mod Lock
pub mod Plays
