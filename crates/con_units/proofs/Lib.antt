pub mod Extremes
pub mod EncodeLemmas
pub mod MaskLemmas
pub mod NearLemmas
