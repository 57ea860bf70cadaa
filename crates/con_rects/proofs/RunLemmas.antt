-- Runs, by places in the list of cells.
use Rattle.std.proofs.Common.{◌≡◌, ℕ, pos, ◌+◌, ◌-◌, ◌*◌, ◌<◌, ◌≤◌, inl, inr, true, ◌&&◌, cond, nat_le, nat_lt, List, length, replicate, get_or, set, sym, ap, ◌∙◌, arith, Some, slice_get}
use Rattle.std.specs.Prelude.{int_le}
use Rattle.std.proofs.lemmas.Bool.{and_from, and_left, and_right, and_parts, le-leb, lt-leb, lt-ltb, le-ltb, ltb-true, cond-true, cond-false, cases_lt}
use Rattle.std.proofs.lemmas.Nat.{mul-add-lt}
use Rattle.std.proofs.lemmas.Option.{get_or_from_slice_get}
use Rattle.std.proofs.lemmas.List.{get_or-replicate, length-replicate}
use Rattle.con_units.specs.Glyph.{Glyph}
use Rattle.con_units.specs.Natural.{natural}
use Rattle.con_units.specs.declared.place.Coord.{Coord}
use Rattle.con_grid.specs.Picture.{Picture, place}
use Rattle.con_grid.specs.Words.Picture.{IsPicture}
use Rattle.con_rects.specs.Rules.{redrawn}
use Rattle.con_rects.specs.Runs.{run_count, units_written, words_written, unit_filled, word_filled}
use Rattle.con_rects.specs.Parts.{blank, has_place, in_run, run_rule, with_unit, with_word}
use Rattle.con_rects.proofs.DrawLemmas.{DoneBefore, flat, place_again, before_skip, before_start, before_put, redrawn_from, redrawn_same}

-- a place that the grid has is in its list of cells
pub start_in : (p : Picture) (at : Coord) → has_place p at ≡ true → place p at < p.width * p.height
start_in p at h =
    let a = and_parts (int_le (pos 0) at.x && int_le (pos 0) at.y && nat_lt (natural at.x) p.width) (nat_lt (natural at.y) p.height) h in
    let b = and_parts (int_le (pos 0) at.x && int_le (pos 0) at.y) (nat_lt (natural at.x) p.width) a.0 in
    omega (arith, mul-add-lt (natural at.y) p.width (natural at.x) p.height (ltb-true (natural at.y) p.height a.1) (ltb-true (natural at.x) p.width b.1))

-- the rule of a run, at a place in the list of cells
abbrev pub run_at : Picture → ℕ → ℕ → (Glyph → ℕ → Glyph) → List ℕ → ℕ → Glyph
run_at p from n with_value values k = cond (in_run from n k) (with_value (get_or p.cells k blank) (get_or values (k - from) 0)) (get_or p.cells k blank)

run_at_is : (p : Picture) (from n : ℕ) (with_value : Glyph → ℕ → Glyph) (values : List ℕ) (k : ℕ) → 0 < p.width → flat p (run_rule p from n with_value values) k ≡ run_at p from n with_value values k
run_at_is p from n with_value values k some = ap (run_at p from n with_value values) (place_again k p.width some)

run_at_before : (p : Picture) (from n : ℕ) (with_value : Glyph → ℕ → Glyph) (values : List ℕ) (k : ℕ) → k < from → run_at p from n with_value values k ≡ get_or p.cells k blank
run_at_before p from n with_value values k h = cond-false (in_run from n k) _ _ (and_left (nat_le from k) (nat_lt k (from + n)) (lt-leb from k h))

run_at_after : (p : Picture) (from n : ℕ) (with_value : Glyph → ℕ → Glyph) (values : List ℕ) (k : ℕ) → from + n ≤ k → run_at p from n with_value values k ≡ get_or p.cells k blank
run_at_after p from n with_value values k h = cond-false (in_run from n k) _ _ (and_right (nat_le from k) (nat_lt k (from + n)) (le-ltb k (from + n) h))

run_at_inside : (p : Picture) (from n : ℕ) (with_value : Glyph → ℕ → Glyph) (values : List ℕ) (k : ℕ) → k < n → run_at p from n with_value values (from + k) ≡ with_value (get_or p.cells (from + k) blank) (get_or values k 0)
run_at_inside p from n with_value values k h =
    cond-true (in_run from n (from + k)) _ _ (and_from (nat_le from (from + k)) (nat_lt (from + k) (from + n)) (le-leb from (from + k) (omega arith)) (lt-ltb (from + k) (from + n) (omega arith)))
    ∙ ap (λ i. with_value (get_or p.cells (from + k) blank) (get_or values i 0)) (omega arith)

-- the steps of a loop over a run
pub run_first : (old : Picture) (from n : ℕ) (with_value : Glyph → ℕ → Glyph) (values : List ℕ) → IsPicture old → DoneBefore old old (run_at old from n with_value values) from
run_first old from n with_value values ok = before_skip old old (run_at old from n with_value values) 0 from (before_start old _ ok) (omega arith) (λ j low high. run_at_before old from n with_value values j high)

pub run_more : (old mid new : Picture) (from n : ℕ) (with_value : Glyph → ℕ → Glyph) (values : List ℕ) (k : ℕ) (was cell : Glyph) → DoneBefore old mid (run_at old from n with_value values) (from + k) → k < n → from + k < length mid.cells
    → slice_get mid.cells (from + k) ≡ Some was → cell ≡ with_value was (get_or values k 0) → new ≡ record mid { cells = set mid.cells (from + k) cell } → IsPicture new → DoneBefore old new (run_at old from n with_value values) (from + k + 1)
run_more old mid new from n with_value values k was cell before h within read is new_is ok =
    let was_is : was ≡ get_or old.cells (from + k) blank = sym (get_or_from_slice_get mid.cells (from + k) was blank read) ∙ before.left (from + k) (omega arith) in
    before_put old mid new (run_at old from n with_value values) (from + k) cell before within
    (is ∙ ap (λ g. with_value g (get_or values k 0)) was_is ∙ sym (run_at_inside old from n with_value values k h)) new_is ok

pub run_last : (old now : Picture) (from n : ℕ) (with_value : Glyph → ℕ → Glyph) (values : List ℕ) → 0 < old.width → DoneBefore old now (run_at old from n with_value values) (from + n) → now ≡ redrawn old (run_rule old from n with_value values)
run_last old now from n with_value values some before =
    redrawn_from old now (run_rule old from n with_value values) before.same before.picture
    (λ k h. elim (cases_lt k (from + n)) [
      | inl lt ↦ before.done k lt ∙ sym (run_at_is old from n with_value values k some)
      | inr ge ↦ before.left k ge ∙ sym (run_at_after old from n with_value values k ge) ∙ sym (run_at_is old from n with_value values k some)
    ])

-- copies past the run's end do not matter
pub copies_same : (p : Picture) (from n m : ℕ) (with_value : Glyph → ℕ → Glyph) (u : ℕ) → 0 < p.width → n ≤ m → redrawn p (run_rule p from n with_value (replicate n u)) ≡ redrawn p (run_rule p from n with_value (replicate m u))
copies_same p from n m with_value u some le =
    redrawn_same p (run_rule p from n with_value (replicate n u)) (run_rule p from n with_value (replicate m u))
    (λ k h. run_at_is p from n with_value (replicate n u) k some ∙ copies_at p from n m with_value u k le ∙ sym (run_at_is p from n with_value (replicate m u) k some))
  where
    copies_at : (p : Picture) (from n m : ℕ) (with_value : Glyph → ℕ → Glyph) (u k : ℕ) → n ≤ m → run_at p from n with_value (replicate n u) k ≡ run_at p from n with_value (replicate m u) k
    copies_at p from n m with_value u k le = elim (cases_lt k from) [
      | inl before ↦ run_at_before p from n with_value (replicate n u) k before ∙ sym (run_at_before p from n with_value (replicate m u) k before)
      | inr low ↦ elim (cases_lt k (from + n)) [
        | inl high ↦
            let i : ℕ = k - from in
            let i_in : i < n = omega arith in
            let i_in' : i < m = omega arith in
            ap (λ v. cond (in_run from n k) (with_value (get_or p.cells k blank) v) (get_or p.cells k blank)) (get_or-replicate n i u 0 i_in ∙ sym (get_or-replicate m i u 0 i_in'))
        | inr after ↦ run_at_after p from n with_value (replicate n u) k after ∙ sym (run_at_after p from n with_value (replicate m u) k after)
      ]
    ]

-- what fills of runs make
pub unit_filled_is : (p : Picture) (at : Coord) (n unit count : ℕ) → 0 < p.width → count ≡ run_count p at n → redrawn p (run_rule p (place p at) count with_unit (replicate count unit)) ≡ unit_filled p at n unit
unfolding units_written
unit_filled_is p at n unit count some is =
    let le : count ≤ n = omega (arith, is) in
    copies_same p (place p at) count n with_unit unit some le ∙ ap (λ c. redrawn p (run_rule p (place p at) c with_unit (replicate n unit))) (is ∙ ap (λ m. run_count p at m) (sym (length-replicate n unit)))

pub word_filled_is : (p : Picture) (at : Coord) (n word count : ℕ) → 0 < p.width → count ≡ run_count p at n → redrawn p (run_rule p (place p at) count with_word (replicate count word)) ≡ word_filled p at n word
unfolding words_written
word_filled_is p at n word count some is =
    let le : count ≤ n = omega (arith, is) in
    copies_same p (place p at) count n with_word word some le ∙ ap (λ c. redrawn p (run_rule p (place p at) c with_word (replicate n word))) (is ∙ ap (λ m. run_count p at m) (sym (length-replicate n word)))

-- what writes of runs make
pub units_written_is : (p : Picture) (at : Coord) (units : List ℕ) (from count : ℕ) → from ≡ place p at → count ≡ run_count p at (length units) → redrawn p (run_rule p from count with_unit units) ≡ units_written p at units
unfolding units_written
units_written_is p at units from count start is = ap (λ f. redrawn p (run_rule p f count with_unit units)) start ∙ ap (λ c. redrawn p (run_rule p (place p at) c with_unit units)) is

pub words_written_is : (p : Picture) (at : Coord) (words : List ℕ) (from count : ℕ) → from ≡ place p at → count ≡ run_count p at (length words) → redrawn p (run_rule p from count with_word words) ≡ words_written p at words
unfolding words_written
words_written_is p at words from count start is = ap (λ f. redrawn p (run_rule p f count with_word words)) start ∙ ap (λ c. redrawn p (run_rule p (place p at) c with_word words)) is
