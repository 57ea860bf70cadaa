-- Units that are printed one after another in a row.
use Rattle.std.proofs.Common.{◌≡◌, ℕ, suc, ◌+◌, ◌-◌, ◌*◌, ◌<◌, ◌≤◌, Bool, true, false, cond, ◌==◌, nat_lt, min, List, [], ◌∷◌, length, map, take, set, fold, refl, sym, ap, ◌∙◌, append_assoc, arith, add-zero}
use Rattle.std.proofs.lemmas.List.{take_more_set, drop-set-lt, take-append-drop, length-set, length-take-le}
use Rattle.std.proofs.lemmas.Bool.Decides.{nat_tests}
use Rattle.con_units.specs.Attr.{Attribute}
use Rattle.con_units.specs.Glyph.{Glyph, cell_of}
use Rattle.con_vtgram.specs.Pen.{attr_of}
use Rattle.con_term.specs.Page.{Page, place, printed}
use Rattle.con_term.specs.Steps.{advanced, put}
use Rattle.con_term.specs.Run.{printed_next, all_printed, pasted, cells_for, ran}

one_unit : (s : Page) (u : ℕ) → s.pending ≡ false → printed u s ≡ advanced (put u s)
unfolding printed
one_unit s u e = rw e refl

pub pasted-none : (cells : List Glyph) (at : ℕ) → pasted cells at [] ≡ cells
unfolding pasted
pasted-none cells at = rw add-zero (simp append_assoc (take-append-drop at cells))

pasted_step : (cells : List Glyph) (at : ℕ) (c : Glyph) (cs : List Glyph) → at < length cells → pasted (set cells at c) (at + 1) cs ≡ pasted cells at (c ∷ cs)
unfolding pasted
pasted_step cells at c cs lt =
    let past : at < at + 1 + length cs = omega arith in
    let e : at + 1 + length cs ≡ at + suc (length cs) = omega arith in
    rw (take_more_set cells at c lt, drop-set-lt (at + 1 + length cs) cells at c past, e) (simp append_assoc)

changed : (s : Page) (cells cells' : List Glyph) (x x' : ℕ) (pending pending' : Bool) → cells ≡ cells' → x ≡ x' → pending ≡ pending' → record s { cells = cells; x = x; pending = pending } ≡ record s { cells = cells'; x = x'; pending = pending' }
changed s cells cells' x x' pending pending' a b c = rw (a, b, c) refl

turn : (s : Page) (u : ℕ) (us : List ℕ) → s.pending ≡ false → s.x < s.w → s.x + suc (length us) ≤ s.w → place s + suc (length us) ≤ length s.cells
    → ((t : Page) → t.pending ≡ false → t.x < t.w → t.x + length us ≤ t.w → place t + length us ≤ length t.cells → fold printed_next t us ≡ ran t us)
    → fold printed_next (advanced (put u s)) us ≡ ran s (u ∷ us)
turn s u [] still inside fits room more = by_end (nat_lt (s.x + 1) s.w) refl
  where
    lt : place s < length s.cells
    lt = omega arith

    here : set s.cells (place s) (cell_of u (attr_of s.pen)) ≡ pasted s.cells (place s) (cell_of u (attr_of s.pen) ∷ [])
    here = sym (pasted-none (set s.cells (place s) (cell_of u (attr_of s.pen))) (place s + 1)) ∙ pasted_step s.cells (place s) (cell_of u (attr_of s.pen)) [] lt

    by_end : (b : Bool) → nat_lt (s.x + 1) s.w ≡ b → cond b (record (put u s) { x = s.x + 1 }) (record (put u s) { pending = true }) ≡ ran s (u ∷ [])
    by_end true e = changed s _ _ (s.x + 1) _ s.pending _ here (grind (arith, nat_tests)) (still ∙ grind (arith, nat_tests))
    by_end false e = changed s _ _ s.x _ true _ here (grind (arith, nat_tests)) (grind (arith, nat_tests))
turn s u (v ∷ us) still inside fits room more = by_end (nat_lt (s.x + 1) s.w) refl
  where
    after : Page
    after = record (put u s) { x = s.x + 1 }

    lt : place s < length s.cells
    lt = omega arith

    e0 : s.y * s.w + (s.x + 1) ≡ place s + 1
    e0 = omega arith

    here : pasted (set s.cells (place s) (cell_of u (attr_of s.pen))) (s.y * s.w + (s.x + 1)) (cells_for s (v ∷ us)) ≡ pasted s.cells (place s) (cells_for s (u ∷ v ∷ us))
    here = rw e0 (pasted_step s.cells (place s) (cell_of u (attr_of s.pen)) (cells_for s (v ∷ us)) lt)

    by_end : (b : Bool) → nat_lt (s.x + 1) s.w ≡ b → fold printed_next (cond b after (record (put u s) { pending = true })) (v ∷ us) ≡ ran s (u ∷ v ∷ us)
    by_end true e = more after still (grind (arith, nat_tests)) (omega arith) (omega (arith, length-set s.cells (place s) (cell_of u (attr_of s.pen))))
        ∙ changed s _ _ (min (s.x + 1 + suc (length us)) (s.w - 1)) _ (s.x + 1 + suc (length us) == s.w) _ here (omega arith) (ap (λ n. n == s.w) (omega arith))
    by_end false e = absurd (grind (arith, nat_tests))

pub ran_is : (s : Page) (us : List ℕ) → s.pending ≡ false → s.x < s.w → s.x + length us ≤ s.w → place s + length us ≤ length s.cells → all_printed s us ≡ ran s us
unfolding all_printed
ran_is s [] still inside fits room =
    changed s s.cells (pasted s.cells (place s) []) s.x (min (s.x + 0) (s.w - 1)) s.pending (s.x + 0 == s.w) (sym (pasted-none s.cells (place s))) (omega arith) (still ∙ grind (arith, nat_tests))
ran_is s (u ∷ us) still inside fits room =
    ap (λ t. fold printed_next t us) (one_unit s u still) ∙ turn s u us still inside fits room (λ t a b d e. ran_is t us a b d e)

-- nothing is printed
pub none_printed : (s : Page) → s ≡ all_printed s []
unfolding all_printed
none_printed s = refl

-- the bytes that were written in the cursor's row
pub run_printed : (s after : Page) (bytes : List ℕ) (count at : ℕ) (attr : Attribute) (cells : List Glyph) → at ≡ place s → attr ≡ attr_of s.pen → s.pending ≡ false → s.x < s.w → s.x + count ≤ s.w → count ≤ length bytes → place s + count ≤ length s.cells
    → cells ≡ pasted s.cells at (map (λ u. cell_of u attr) (take count bytes)) → after ≡ record s { cells = cells; x = min (s.x + count) (s.w - 1); pending = (s.x + count == s.w) } → after ≡ all_printed s (take count bytes)
run_printed s after bytes count at attr cells here ink still inside fits most room is e =
    let n : length (take count bytes) ≡ count = length-take-le count bytes most in
    let same : cells ≡ pasted s.cells (place s) (cells_for s (take count bytes)) = is ∙ rw (here, ink) refl in
    e ∙ sym (ran_is s (take count bytes) still inside (omega (arith, n)) (omega (arith, n)) ∙ changed s _ _ _ _ _ _ (sym same) (ap (λ k. min (s.x + k) (s.w - 1)) n) (ap (λ k. s.x + k == s.w) n))
