pub mod SpellLemmas
pub mod SameLemmas
pub mod PenLemmas
pub mod LeadLemmas
pub mod RunLemmas
pub mod SpotLemmas
pub mod SumLemmas
