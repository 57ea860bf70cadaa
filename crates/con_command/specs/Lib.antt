-- The command as the reader of command lines sees it.
pub mod Command
