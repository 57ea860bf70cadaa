-- What a reader must believe: the words that public clauses cite.
pub mod PipeEnds
pub mod Pieces
