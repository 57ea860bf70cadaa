pub mod WriteLemmas
pub mod KeepLemmas
pub mod ViewLemmas
pub mod ResizeLemmas
pub mod ShowsLemmas
