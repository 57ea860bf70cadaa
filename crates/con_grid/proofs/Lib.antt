pub mod FillLemmas
pub mod StampLemmas
pub mod ResizedLemmas
pub mod RingLemmas
pub mod PlainLemmas
pub mod PartLemmas
