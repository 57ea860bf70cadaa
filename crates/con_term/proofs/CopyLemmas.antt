-- Cells copied piece by piece.
use Rattle.std.proofs.Common.{◌≡◌, ℕ, ◌-◌, ◌≤◌, List, ◌++◌, length, take, drop, arith}
use Rattle.std.proofs.lemmas.List.{same_lists, places}
use borrow.Rule.Slice.PartMut.{put_mid}
use Rattle.con_units.specs.Glyph.{Glyph}

pub copied_more : (to from old mid : List Glyph) (at end : ℕ) → length old ≡ length from → at ≤ end → end ≤ length from → to ≡ take at from ++ drop at old → mid ≡ take (end - at) (drop at from)
    → put_mid at (end - at) to mid ≡ take end from ++ drop end old
copied_more to from old mid at end long order inside is copied = rw (is, copied) (same_lists _ _ (grind (arith, places)) (λ k d h. grind (arith, places)))
