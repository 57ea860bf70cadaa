mod Lines
mod Gaps
mod Rows
