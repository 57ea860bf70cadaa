-- Failures of a part of the outside, which are counted: why a thread counts it as failed.
use Rattle.std.proofs.Common.{◌⊎◌, ℕ, ◌≤◌, inl, inr, arith}
use Rattle.con_outside.specs.Outside.{Rose}

pub rose_later : (a b c : ℕ) → Rose a b → b ≤ c → Rose a c
rose_later a b c (inl l) m = inl (omega arith)
rose_later a b c (inr l) m = inr (omega arith)

pub rose_sooner : (a b c : ℕ) → a ≤ b → Rose b c → Rose a c
rose_sooner a b c l (inl m) = inl (omega arith)
rose_sooner a b c l (inr m) = inr m

-- a cause that was there, or came now
pub cause_then : (P Q R : Type 0) (a b c : ℕ) → (Q → P ⊎ Rose a b) → (R → Q ⊎ Rose b c) → a ≤ b → b ≤ c → R → P ⊎ Rose a c
cause_then P Q R a b c f g l m r =
    elim (g r) [ inl q ↦ elim (f q) [ inl p ↦ inl p | inr x ↦ inr (rose_later a b c x m) ] | inr x ↦ inr (rose_sooner a b c l x) ]
