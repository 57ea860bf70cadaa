-- Cells that are printed one after another in a row.
use Rattle.std.proofs.Common.{◌≡◌, ℕ, suc, ◌+◌, ◌-◌, ◌*◌, ◌<◌, ◌≤◌, Bool, true, false, cond, ◌==◌, nat_lt, min, List, [], ◌∷◌, ◌++◌, length, take, set, get_or, fold, refl, sym, ap, ◌∙◌, append_assoc, arith, add-zero}
use Rattle.std.proofs.lemmas.List.{take_more_set, drop-set-lt, take-append-drop, length-set, take_more}
use Rattle.std.proofs.lemmas.List.Sums.{fold-append}
use Rattle.std.proofs.lemmas.Bool.Decides.{nat_tests}
use Rattle.con_units.specs.Attr.{Attribute}
use Rattle.con_units.specs.Glyph.{Glyph}
use Rattle.con_term.specs.Page.{Page, place, printed, lowered, wrapped}
use Rattle.con_term.specs.Steps.{advanced, put, scrolled}
use Rattle.con_vtgram.specs.declared.pen.Pen.{Pen}
use Rattle.con_strokes.specs.Leads.{Leads}
use Rattle.con_strokes.specs.Ink.{pen_for}
use Rattle.con_strokes.specs.Paint.{IsCell, AllCells, cell_printed, cells_printed, pasted, last_attr}
use Rattle.con_strokes.proofs.PenLemmas.{attr_is}
use Rattle.con_strokes.proofs.LeadLemmas.{leads_then, leads-none}

one_cell : (s : Page) (c : Glyph) → IsCell c → s.pending ≡ false → cell_printed s c ≡ advanced (record s { pen = pen_for c.attr; cells = set s.cells (place s) c })
unfolding printed
one_cell s c h e = rw (e, attr_is c.attr h.fits.1 h.attr, h.unit) refl

pub pasted-none : (cells : List Glyph) (at : ℕ) → pasted cells at [] ≡ cells
unfolding pasted
pasted-none cells at = rw add-zero (simp append_assoc (take-append-drop at cells))

pub pasted_step : (cells : List Glyph) (at : ℕ) (c : Glyph) (cs : List Glyph) → at < length cells → pasted (set cells at c) (at + 1) cs ≡ pasted cells at (c ∷ cs)
unfolding pasted
pasted_step cells at c cs lt =
    let past : at < at + 1 + length cs = omega arith in
    let e : at + 1 + length cs ≡ at + suc (length cs) = omega arith in
    rw (take_more_set cells at c lt, drop-set-lt (at + 1 + length cs) cells at c past, e) (simp append_assoc)

changed : (s : Page) (cells cells' : List Glyph) (x x' : ℕ) (pending pending' : Bool) (pen pen' : Pen) → cells ≡ cells' → x ≡ x' → pending ≡ pending' → pen ≡ pen'
    → record s { cells = cells; x = x; pending = pending; pen = pen } ≡ record s { cells = cells'; x = x'; pending = pending'; pen = pen' }
changed s cells cells' x x' pending pending' pen pen' a b c d = rw (a, b, c, d) refl

-- what the cells leave: the last one's pen, and a pending wrap behind the last column
abbrev pub ran : Page → Attribute → List Glyph → Page
ran s ink cs = record s { cells = pasted s.cells (place s) cs; x = min (s.x + length cs) (s.w - 1); pending = (s.x + length cs == s.w); pen = pen_for (last_attr ink cs) }

turn : (s : Page) (ink : Attribute) (c : Glyph) (cs : List Glyph) → s.pending ≡ false → s.x < s.w → s.x + suc (length cs) ≤ s.w → place s + suc (length cs) ≤ length s.cells
    → ((t : Page) → t.pending ≡ false → t.pen ≡ pen_for c.attr → t.x < t.w → t.x + length cs ≤ t.w → place t + length cs ≤ length t.cells → fold cell_printed t cs ≡ ran t c.attr cs)
    → fold cell_printed (advanced (record s { pen = pen_for c.attr; cells = set s.cells (place s) c })) cs ≡ ran s ink (c ∷ cs)
turn s ink c [] still inside fits room more = by_end (nat_lt (s.x + 1) s.w) refl
  where
    lt : place s < length s.cells
    lt = omega arith

    here : set s.cells (place s) c ≡ pasted s.cells (place s) (c ∷ [])
    here = sym (pasted-none (set s.cells (place s) c) (place s + 1)) ∙ pasted_step s.cells (place s) c [] lt

    by_end : (b : Bool) → nat_lt (s.x + 1) s.w ≡ b → cond b (record s { pen = pen_for c.attr; cells = set s.cells (place s) c; x = s.x + 1 }) (record s { pen = pen_for c.attr; cells = set s.cells (place s) c; pending = true }) ≡ ran s ink (c ∷ [])
    by_end true e = changed s _ _ (s.x + 1) _ s.pending _ (pen_for c.attr) _ here (grind (arith, nat_tests)) (still ∙ grind (arith, nat_tests)) refl
    by_end false e = changed s _ _ s.x _ true _ (pen_for c.attr) _ here (grind (arith, nat_tests)) (grind (arith, nat_tests)) refl
turn s ink c (d ∷ cs) still inside fits room more = by_end (nat_lt (s.x + 1) s.w) refl
  where
    after : Page
    after = record s { pen = pen_for c.attr; cells = set s.cells (place s) c; x = s.x + 1 }

    lt : place s < length s.cells
    lt = omega arith

    e0 : s.y * s.w + (s.x + 1) ≡ place s + 1
    e0 = omega arith

    here : pasted (set s.cells (place s) c) (s.y * s.w + (s.x + 1)) (d ∷ cs) ≡ pasted s.cells (place s) (c ∷ d ∷ cs)
    here = rw e0 (pasted_step s.cells (place s) c (d ∷ cs) lt)

    by_end : (b : Bool) → nat_lt (s.x + 1) s.w ≡ b → fold cell_printed (cond b after (record s { pen = pen_for c.attr; cells = set s.cells (place s) c; pending = true })) (d ∷ cs) ≡ ran s ink (c ∷ d ∷ cs)
    by_end true e = more after still refl (grind (arith, nat_tests)) (omega arith) (omega (arith, length-set s.cells (place s) c))
        ∙ changed s _ _ (min (s.x + 1 + suc (length cs)) (s.w - 1)) _ (s.x + 1 + suc (length cs) == s.w) _ (pen_for (last_attr d.attr cs)) _ here (omega arith) (ap (λ n. n == s.w) (omega arith)) refl
    by_end false e = absurd (grind (arith, nat_tests))

pub run : (s : Page) (ink : Attribute) (cs : List Glyph) → AllCells cs → s.pending ≡ false → s.pen ≡ pen_for ink → s.x < s.w → s.x + length cs ≤ s.w → place s + length cs ≤ length s.cells → cells_printed s cs ≡ ran s ink cs
unfolding cells_printed
run s ink [] all still pen inside fits room =
    changed s s.cells (pasted s.cells (place s) []) s.x (min (s.x + 0) (s.w - 1)) s.pending (s.x + 0 == s.w) s.pen (pen_for ink) (sym (pasted-none s.cells (place s))) (omega arith) (still ∙ grind (arith, nat_tests)) pen
run s ink (c ∷ cs) all still pen inside fits room =
    ap (λ t. fold cell_printed t cs) (one_cell s c all.0 still) ∙ turn s ink c cs still inside fits room (λ t a b d e f. run t c.attr cs all.1 a b d e f)

-- ---- one more cell

advanced_pen : (b : Bool) (t : Page) → (cond b (record t { x = t.x + 1 }) (record t { pending = true })).pen ≡ t.pen
advanced_pen true t = refl
advanced_pen false t = refl

lowered_pen : (b : Bool) (s : Page) (up : List Glyph) → (cond b (record s { y = s.y + 1 }) (record s { cells = up })).pen ≡ s.pen
lowered_pen true s up = refl
lowered_pen false s up = refl

wrapped_pen : (b : Bool) (s t : Page) → t.pen ≡ s.pen → (cond b (record t { x = 0; pending = false }) s).pen ≡ s.pen
wrapped_pen true s t h = h
wrapped_pen false s t h = refl

pub printed-pen : (u : ℕ) (s : Page) → (printed u s).pen ≡ s.pen
unfolding printed lowered
printed-pen u s = advanced_pen (nat_lt ((wrapped s).x + 1) (wrapped s).w) (put u (wrapped s)) ∙ wrapped_pen s.pending s (lowered s) (lowered_pen (nat_lt (s.y + 1) s.h) s (scrolled s).cells)

pub cells_printed-more : (s : Page) (cs : List Glyph) (c : Glyph) → cells_printed s (cs ++ c ∷ []) ≡ cell_printed (cells_printed s cs) c
unfolding cells_printed
cells_printed-more s cs c = fold-append cell_printed s cs (c ∷ [])

last_attr-more : (w : Attribute) (cs : List Glyph) (c : Glyph) → last_attr w (cs ++ c ∷ []) ≡ c.attr
last_attr-more w [] c = refl
last_attr-more w (d ∷ cs) c = last_attr-more d.attr cs c

all_cells-more : (cs : List Glyph) (c : Glyph) → AllCells cs → IsCell c → AllCells (cs ++ c ∷ [])
all_cells-more [] c h k = (k, tt)
all_cells-more (d ∷ cs) c h k = (h.0, all_cells-more cs c h.1 k)

pub pen_after_cells : (s : Page) (w : Attribute) (cs : List Glyph) → s.pen ≡ pen_for w → (cells_printed s cs).pen ≡ pen_for (last_attr w cs)
unfolding cells_printed
pen_after_cells s w [] h = h
pen_after_cells s w (c ∷ cs) h = pen_after_cells (cell_printed s c) c.attr cs (printed-pen c.unit (record s { pen = pen_for c.attr }))

-- what a loop over the cells of a row keeps
pub record Printing (before : Attribute) (old new : List ℕ) (cs : List Glyph) (ink : Attribute) (count : ℕ) : Type 0 where
  pub leads : (s : Page) → s.pen ≡ pen_for before → Leads old new s (cells_printed s cs) count
  pub pen : ink ≡ last_attr before cs
  pub cells : AllCells cs

pub printing_none : (before : Attribute) (old : List ℕ) → Printing before old old [] before 0
unfolding cells_printed
printing_none before old = record { leads = λ s h. leads-none old s; pen = refl; cells = tt }

pub printing_more : (before : Attribute) (old mid new : List ℕ) (cs : List Glyph) (c : Glyph) (ink : Attribute) (n : ℕ) → Printing before old mid cs ink n → IsCell c
    → ((s : Page) → s.pen ≡ pen_for ink → Leads mid new s (cell_printed s c) 1) → Printing before old new (cs ++ c ∷ []) c.attr (n + 1)
printing_more before old mid new cs c ink n h k one = record {
  leads = λ s e. rw (cells_printed-more s cs c) (leads_then old mid new s (cells_printed s cs) _ n 1 (n + 1) (h.leads s e) (one (cells_printed s cs) (pen_after_cells s before cs e ∙ ap pen_for (sym h.pen))) refl);
  pen = sym (last_attr-more before cs c);
  cells = all_cells-more cs c h.cells k;
}

pub printing_turn : (before : Attribute) (old mid new : List ℕ) (row : List Glyph) (i : ℕ) (item : Glyph) (u : ℕ) (w ink : Attribute) → i < length row → item ≡ get_or row i item → u ≡ item.unit → w ≡ item.attr
    → Printing before old mid (take i row) ink i → IsCell (record { unit = u; attr = w }) → ((s : Page) → s.pen ≡ pen_for ink → Leads mid new s (cell_printed s (record { unit = u; attr = w })) 1)
    → Printing before old new (take (i + 1) row) w (i + 1)
printing_turn before old mid new row i item u w ink lt is eu ew h k one =
    let same : record { unit = u; attr = w } ≡ item = rw (eu, ew) refl in
    let longer : take (i + 1) row ≡ take i row ++ record { unit = u; attr = w } ∷ [] = take_more row i item lt ∙ ap (λ x. take i row ++ x ∷ []) (sym is ∙ sym same) in
    rw longer (printing_more before old mid new (take i row) (record { unit = u; attr = w }) ink i h k one)
