-- The checksum of a row, a cell at a time.
use Rattle.std.proofs.Common.{◌≡◌, ℕ, ◌+◌, ◌<◌, List, [], ◌∷◌, ◌++◌, fold, get_or, length, take, sym, ap, ◌∙◌}
use Rattle.std.proofs.lemmas.List.{take_more}
use Rattle.std.proofs.lemmas.List.Sums.{fold-append}
use Rattle.con_units.specs.Glyph.{Glyph}
use Rattle.con_strokes.specs.Checksum.{next_checksum, checksum_of}

pub summed_more : (row : List Glyph) (i sum next : ℕ) (c : Glyph) → i < length row → c ≡ get_or row i c → sum ≡ checksum_of (take i row) → next ≡ next_checksum sum c → next ≡ checksum_of (take (i + 1) row)
unfolding checksum_of
summed_more row i sum next c lt e h n =
    let more : take (i + 1) row ≡ take i row ++ c ∷ [] = take_more row i c lt ∙ ap (λ z. take i row ++ z ∷ []) (sym e) in
    n ∙ ap (λ z. next_checksum z c) h ∙ sym (ap (fold next_checksum 0) more ∙ fold-append next_checksum 0 (take i row) (c ∷ []))
