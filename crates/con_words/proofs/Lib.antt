mod Alone
pub mod Entered
pub mod Forms
mod Numbers
mod Other
mod WithFiles
mod WithWord
