-- Cells that become one cell.
use Rattle.std.proofs.Common.{◌≡◌, ℕ, Bool, true, map, zero, suc, ◌+◌, ◌-◌, ◌<◌, ◌≤◌, List, [], ◌∷◌, ◌++◌, length, get_or, set, take, drop, replicate, refl, sym, ap, ◌∙◌, append_assoc, arith, length-append, add-one, add-zero}
use Rattle.std.proofs.lemmas.Grind.{common_steps, replicate_next}
use Rattle.std.specs.List.{list_all}
use Rattle.std.proofs.lemmas.List.Folds.{list_all-append}
use Rattle.std.proofs.lemmas.List.{length-replicate, length-take-le, take_more, map-append, length-map, take-append-drop}
use Rattle.std.proofs.Math.Seq.{set-append_seam, drop-cons}
use Rattle.con_units.specs.Glyph.{Glyph}
use Rattle.con_term.specs.Page.{filled}
use Rattle.con_term.specs.Run.{pasted}

pub drop_past : (xs : List Glyph) (n : ℕ) → length xs ≤ n → drop n xs ≡ []
drop_past [] zero h = refl
drop_past [] (suc n) h = refl
drop_past (x ∷ xs) zero h = absurd (omega arith)
drop_past (x ∷ xs) (suc n) h = drop_past xs n (omega arith)

pub append_none : (xs : List Glyph) → xs ++ [] ≡ xs
append_none [] = refl
append_none (x ∷ xs) = ap (λ zs. x ∷ zs) (append_none xs)

set_at : (xs : List Glyph) (y : Glyph) (ys : List Glyph) (c : Glyph) (n : ℕ) → length xs ≡ n → set (xs ++ y ∷ ys) n c ≡ xs ++ c ∷ ys
set_at xs y ys c n h = rw (← h) (set-append_seam xs y ys c)

regroup : (xs ys zs : List Glyph) (c : Glyph) → (xs ++ ys) ++ c ∷ zs ≡ xs ++ (ys ++ c ∷ []) ++ zs
regroup xs ys zs c = simp append_assoc

pub filled-none : (cells : List Glyph) (from : ℕ) (c : Glyph) → cells ≡ filled cells from from c
unfolding filled
filled-none cells from c = grind (arith, common_steps)

pub filled-more : (cells : List Glyph) (from at : ℕ) (c : Glyph) → from ≤ at → at < length cells → set (filled cells from at c) at c ≡ filled cells from (at + 1) c
unfolding filled
filled-more cells from at c order inside =
    let front : length (take from cells ++ replicate (at - from) c) ≡ at = grind (arith, common_steps, length-replicate, length-take-le) in
    let more : at + 1 - from ≡ (at - from) + 1 = omega arith in
    rw (drop-cons cells at c inside, more, replicate_next (at - from) c, add-one)
    (set_at (take from cells ++ replicate (at - from) c) (get_or cells at c) (drop (suc at) cells) c at front ∙ regroup (take from cells) (replicate (at - from) c) (drop (suc at) cells) c)

pasted_more : (cells : List Glyph) (from i : ℕ) (cs : List Glyph) (c : Glyph) → length cs ≡ i → from + i < length cells → set (pasted cells from cs) (from + i) c ≡ pasted cells from (cs ++ c ∷ [])
unfolding pasted
pasted_more cells from i cs c n lt =
    let front : length (take from cells ++ cs) ≡ from + i = omega (arith, n, length-append (take from cells) cs, length-take-le from cells (omega arith)) in
    let past : from + length (cs ++ c ∷ []) ≡ suc (from + i) = omega (arith, n, length-append cs (c ∷ [])) in
    rw (n, drop-cons cells (from + i) c lt, past) (set_at (take from cells ++ cs) (get_or cells (from + i) c) (drop (suc (from + i)) cells) c (from + i) front ∙ regroup (take from cells) cs (drop (suc (from + i)) cells) c)

-- one more cell of a run
pub written_more : (f : ℕ → Glyph) (now old : List Glyph) (bytes : List ℕ) (from at : ℕ) (c : Glyph) → at < length bytes → from + at < length old → now ≡ pasted old from (map f (take at bytes)) → c ≡ f (get_or bytes at 0)
    → set now (from + at) c ≡ pasted old from (map f (take (at + 1) bytes))
written_more f now old bytes from at c lt room is e =
    let front : length (map f (take at bytes)) ≡ at = omega (arith, length-map (take at bytes) f, length-take-le at bytes (omega arith)) in
    rw (is, take_more bytes at 0 lt, map-append f (take at bytes) (get_or bytes at 0 ∷ []), ← e) (pasted_more old from at (map f (take at bytes)) c front room)

pub all_more : (p : ℕ → Bool) (bytes : List ℕ) (at : ℕ) → at < length bytes → list_all p (take at bytes) ≡ true → p (get_or bytes at 0) ≡ true → list_all p (take (at + 1) bytes) ≡ true
all_more p bytes at lt h k = rw (take_more bytes at 0 lt) (list_all-append p (take at bytes) (get_or bytes at 0 ∷ []) ∙ rw (h, k) refl)

pub written_none : (cells : List Glyph) (from : ℕ) → cells ≡ pasted cells from []
unfolding pasted
written_none cells from = sym (rw add-zero (simp append_assoc (take-append-drop from cells)))
