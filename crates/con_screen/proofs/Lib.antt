pub mod ModeLemmas
pub mod WriteLemmas
pub mod SidesLemmas
pub mod RunLemmas
pub mod EchoLemmas
pub mod PlaceLemmas
pub mod ToldLemmas
