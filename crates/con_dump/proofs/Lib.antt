pub mod DecodeLemmas
pub mod DumpLemmas
