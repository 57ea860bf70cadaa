pub mod AnyTerminal
