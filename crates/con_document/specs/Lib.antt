-- What a reader must believe: steps of documents, and the session of a document.
pub mod Units
pub mod Readers
pub mod Document
-- The words of con_script's code: what it reads of values, arguments by their kinds, steps by rows, and sessions with the places of faults.
pub mod Values
pub mod Steps
pub mod Session
-- Laws: the code's reader of steps is the one that there is, and finds what a document is.
pub mod PlainLaws
pub mod RowLaws
pub mod ArgumentLaws
pub mod SessionLaws
pub mod StepLaws
