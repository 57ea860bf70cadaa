-- What a reader must believe: the words of the public contracts.
pub mod Answers
pub mod Memory
pub mod Delivery
-- Words for structs of the crates above.
pub mod Boxes
-- The words of the code and of laws about these files, which a reader need not believe.
pub mod Words
