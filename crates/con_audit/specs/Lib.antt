-- What a reader must believe: what is known of a terminal, a partial terminal, what it is that it stays true, and a stream that it plays.
pub mod Known
pub mod Partial
pub mod Agrees
pub mod Watching
-- What an audit asks, its verdict, and what a yes says; what one entry more must keep.
pub mod Audit
pub mod Headline
pub mod OneMore
-- The code's own words.
pub mod Verdicts
pub mod Side
pub mod Links
pub mod Track
pub mod Flags
pub mod Playing
pub mod Inside
pub mod Judging
-- The words of the code and of laws about these files, which a reader need not believe.
pub mod Words
