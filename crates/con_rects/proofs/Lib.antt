pub mod AreaLemmas
pub mod UsedLemmas
pub mod DrawLemmas
pub mod RunLemmas
pub mod RectLemmas
pub mod ReadLemmas
pub mod MoveLemmas
pub mod ScrollLemmas
