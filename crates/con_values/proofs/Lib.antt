mod LeftLemmas
mod ShortLemmas
