pub mod SpanLemmas
pub mod ColumnLemmas
pub mod PlaceLemmas
pub mod FrameLemmas
pub mod LiftLemmas
pub mod ChecksumLemmas
pub mod DrawLemmas
mod PlayLemmas
