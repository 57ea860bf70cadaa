-- What a reader must believe: what the top call does, by its words.
pub mod Hosting
