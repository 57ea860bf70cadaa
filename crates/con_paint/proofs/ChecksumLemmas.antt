-- Checksums of rows.
use Rattle.std.proofs.Common.{◌≡◌, ℕ, ◌+◌, ◌-◌, ◌*◌, ◌<◌, ◌≤◌, Bool, true, false, cond, ◌&&◌, ◌||◌, not, inl, inr, nat_lt, List, get_or, set, length, take, drop, refl, sym, ap, ◌∙◌, arith, length-drop, length-set}
use Rattle.std.proofs.lemmas.List.{take_all, drop-drop, get_or-set_same, get_or-set_other}
use Rattle.std.proofs.lemmas.Nat.{mul-le}
use Rattle.std.proofs.lemmas.Bool.Decides.{nat_tests}
use Rattle.con_units.specs.Glyph.{Glyph}
use Rattle.con_units.specs.View.{row_of}
use Rattle.con_strokes.specs.Checksum.{checksum_of, IsSummed, AreSummed}
use Rattle.con_strokes.specs.Compared.{same_cells, IsLifted}
use Rattle.con_strokes.specs.declared.checksum.Checksums.{Checksums}
use Rattle.con_paint.proofs.FrameLemmas.{must_equal, slice_is}
use Rattle.con_paint.proofs.LiftLemmas.{prefix_row}
use Rattle.con_strokes.proofs.SameLemmas.{are_same}

-- ---- the checksums of the first rows are renewed

pub record Renewed (known : Bool) (w h y : ℕ) (v old : List Glyph) (before sums : List Checksums) : Type 0 where
  pub long : length sums ≡ h
  pub now : (z : ℕ) (c : Checksums) → z < y → (get_or sums z c).now ≡ checksum_of (row_of w v z)
  pub was : known ≡ true → (z : ℕ) (c : Checksums) → z < y → (get_or sums z c).was ≡ checksum_of (row_of w old z)
  pub behind : (z : ℕ) (c : Checksums) → y ≤ z → get_or sums z c ≡ get_or before z c

pub renewed_none : (known : Bool) (w h : ℕ) (v old : List Glyph) (before : List Checksums) → length before ≡ h → Renewed known w h 0 v old before before
renewed_none known w h v old before long = record { long = long; now = λ z c lt. absurd (omega arith); was = λ k z c lt. absurd (omega arith); behind = λ z c le. refl }

-- the checksum of a row that is not painted is that of the row as it is now
now_is : (known marked paint : Bool) (w y sum now : ℕ) (v old row was : List Glyph) → row ≡ row_of w v y → was ≡ row_of w old y → paint ≡ (not known || (marked && not (same_cells row was))) → (known ≡ true → marked ≡ false → row_of w v y ≡ row_of w old y)
    → (known ≡ true → sum ≡ checksum_of (row_of w old y)) → now ≡ cond paint (checksum_of row) sum → now ≡ checksum_of (row_of w v y)
now_is known marked true w y sum now v old row was row_is was_is e equal sum_is is = is ∙ ap checksum_of row_is
now_is known marked false w y sum now v old row was row_is was_is e equal sum_is is =
    let m = must_equal known marked (same_cells row was) e in
    let same : row_of w v y ≡ row_of w old y = elim m.1 [ inl f ↦ equal m.0 f | inr t ↦ sym row_is ∙ are_same row was t ∙ was_is ] in
    is ∙ sum_is m.0 ∙ ap checksum_of (sym same)

pub renewed_turn : (known marked paint : Bool) (w h y : ℕ) (v old row was : List Glyph) (before sums : List Checksums) (d next : Checksums) → y < h → IsSummed known w h old before → Renewed known w h y v old before sums
    → next.was ≡ (get_or sums y d).now → next.now ≡ cond paint (checksum_of row) (get_or sums y d).now → row ≡ take (y * w + w - y * w) (drop (y * w) v) → was ≡ take (y * w + w - y * w) (drop (y * w) old)
    → paint ≡ (not known || (marked && not (same_cells row was))) → (known ≡ true → marked ≡ false → row_of w v y ≡ row_of w old y) → Renewed known w h (y + 1) v old before (set sums y next)
renewed_turn known marked paint w h y v old row was before sums d next lt summed r was_is now_eq row_is old_is e equal =
    let inside : y < length sums = omega (arith, r.long) in
    let last_now : known ≡ true → (get_or sums y d).now ≡ checksum_of (row_of w old y) = λ k. ap (λ (z : Checksums). z.now) (r.behind y d (omega arith)) ∙ summed.now k y d lt in
    let now : next.now ≡ checksum_of (row_of w v y) = now_is known marked paint w y (get_or sums y d).now next.now v old row was (row_is ∙ slice_is y w v) (old_is ∙ slice_is y w old) e equal last_now now_eq in
    record {
      long = length-set sums y next ∙ r.long;
      now = λ z c less. now_at z c (nat_lt z y) refl less inside now;
      was = λ k z c less. was_at z c (nat_lt z y) refl less inside k (was_is ∙ last_now k);
      behind = λ z c le. get_or-set_other sums y z next c (λ q. absurd (omega (arith, q, le))) ∙ r.behind z c (omega arith);
    }
  where
    now_at : (z : ℕ) (c : Checksums) (b : Bool) → nat_lt z y ≡ b → z < y + 1 → y < length sums → next.now ≡ checksum_of (row_of w v y) → (get_or (set sums y next) z c).now ≡ checksum_of (row_of w v z)
    now_at z c true t less inside now = let l : z < y = grind (arith, nat_tests) in ap (λ (q : Checksums). q.now) (get_or-set_other sums y z next c (λ q. absurd (omega (arith, q, l)))) ∙ r.now z c l
    now_at z c false t less inside now = let l : y ≤ z = grind (arith, nat_tests) in let q : z ≡ y = omega arith in rw q (ap (λ (q : Checksums). q.now) (get_or-set_same sums y next c inside) ∙ now)

    was_at : (z : ℕ) (c : Checksums) (b : Bool) → nat_lt z y ≡ b → z < y + 1 → y < length sums → known ≡ true → next.was ≡ checksum_of (row_of w old y) → (get_or (set sums y next) z c).was ≡ checksum_of (row_of w old z)
    was_at z c true t less inside k was = let l : z < y = grind (arith, nat_tests) in ap (λ (q : Checksums). q.was) (get_or-set_other sums y z next c (λ q. absurd (omega (arith, q, l)))) ∙ r.was k z c l
    was_at z c false t less inside k was = let l : y ≤ z = grind (arith, nat_tests) in let q : z ≡ y = omega arith in rw q (ap (λ (q : Checksums). q.was) (get_or-set_same sums y next c inside) ∙ was)

pub renewed_all : (known : Bool) (w h : ℕ) (v old : List Glyph) (before sums : List Checksums) → Renewed known w h h v old before sums → AreSummed known w h v old sums
renewed_all known w h v old before sums r = record { long = r.long; now = λ y c lt. r.now y c lt; was = λ k y c lt. r.was k y c lt }

-- ---- rows that are lifted have their checksums

lifted_row : (w h k y : ℕ) (v old : List Glyph) → IsLifted w h k v old → length old ≡ h * w → y + k < h → row_of w v y ≡ row_of w old (y + k)
lifted_row w h k y v old is long lt =
    let below : k * w + (y * w + w) ≤ h * w = omega (arith, mul-le (y + k + 1) w h w (omega arith) (omega arith)) in
    let behind : length (drop (k * w) old) ≡ h * w - k * w = omega (arith, length-drop (k * w) old) in
    let whole : take (h * w - k * w) (drop (k * w) old) ≡ drop (k * w) old = take_all (h * w - k * w) (drop (k * w) old) (omega arith) in
    let one : row_of w v y ≡ row_of w (drop (k * w) old) y = prefix_row (h * w - k * w) y w v (drop (k * w) old) (is ∙ sym whole) (omega arith) in
    let place : y * w + k * w ≡ (y + k) * w = omega arith in
    one ∙ ap (take w) (drop-drop (y * w) (k * w) old ∙ ap (λ z. drop z old) (at (y * w) (k * w) ((y + k) * w) place))
  where
    at : (a b c : ℕ) → a + b ≡ c → b + a ≡ c
    at a b c e = omega arith

pub lift_agrees : (w h k : ℕ) (v old : List Glyph) (sums : List Checksums) → length old ≡ h * w → AreSummed true w h v old sums → IsLifted w h k v old → (y : ℕ) (a b : Checksums) → y + k < length sums → (get_or sums y a).now ≡ (get_or sums (y + k) b).was
lift_agrees w h k v old sums long summed is y a b lt =
    let less : y + k < h = omega (arith, summed.long) in
    summed.now y a (omega arith) ∙ ap checksum_of (lifted_row w h k y v old is long less) ∙ sym (summed.was refl (y + k) b less)

pub not_agreeing : (w h k : ℕ) (v old : List Glyph) (sums : List Checksums) (result : Bool) → length old ≡ h * w → AreSummed true w h v old sums → (((y : ℕ) (a b : Checksums) → y + k < length sums → (get_or sums y a).now ≡ (get_or sums (y + k) b).was) → result ≡ true)
    → result ≡ false → IsLifted w h k v old → ⊥
not_agreeing w h k v old sums result long summed agree f is = let t : true ≡ false = sym (agree (lift_agrees w h k v old sums long summed is)) ∙ f in cc
