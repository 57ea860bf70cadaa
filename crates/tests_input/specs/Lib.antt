-- What the rows say: of tables of handles and of processes, of a key, and of sessions.
pub mod Rows
