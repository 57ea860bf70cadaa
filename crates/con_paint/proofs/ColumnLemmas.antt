-- Columns of a row, one after another.
use Rattle.std.proofs.Common.{◌≡◌, ℕ, ◌+◌, ◌*◌, ◌<◌, ◌≤◌, Bool, true, false, List, [], ◌==◌, ◌∷◌, ◌++◌, ◌-◌, length, take, drop, replicate, get_or, refl, sym, ap, ◌∙◌, append_assoc, arith, length-append, length-drop}
use Rattle.std.proofs.lemmas.List.{take_at, drop_at, drop-drop, drop-append-le, length-take-le, take-append-drop, take_more, drop_more, get_or-drop, get_or-take}
use Rattle.std.proofs.lemmas.Grind.{replicate_next}
use Rattle.std.proofs.lemmas.List.{length-replicate}
use Rattle.std.proofs.lemmas.Nat.{mul-le}
use Rattle.std.proofs.Math.Seq.{take-add}
use Rattle.std.proofs.lemmas.Bool.Decides.{nat_tests}
use Rattle.con_units.specs.Attr.{Attribute, plain}
use Rattle.con_units.specs.Glyph.{Glyph, blank_cell}
use Rattle.con_units.specs.View.{row_of}
use Rattle.con_term.specs.Effect.{unpended}
use Rattle.con_term.specs.Page.{Page, erased, filled, place}
use Rattle.con_strokes.specs.Leads.{Leads}
use Rattle.con_strokes.specs.Ink.{pen_for}
use Rattle.con_strokes.specs.Paint.{IsCell, cell_printed, cells_printed, pasted}
use Rattle.con_strokes.specs.Compared.{same_cell}
use Rattle.con_paint.specs.Columns.{ColumnStep, FirstColumns, IsSameAt, MoreColumns, RunStep}
use Rattle.con_strokes.specs.Spot.{IsAt, IsBehind}
use Rattle.con_strokes.specs.declared.spot.Spot.{Spot}
use Rattle.con_strokes.specs.declared.spot.State.{State}
use Rattle.con_strokes.proofs.PenLemmas.{pen_is}
use Rattle.con_strokes.proofs.LeadLemmas.{leads_then, leads-none}
use Rattle.con_strokes.proofs.RunLemmas.{run, ran}
use Rattle.con_strokes.proofs.SameLemmas.{one_same, any_default}
use Rattle.con_paint.proofs.SpanLemmas.{filled_is, length-pasted, small_pen}

-- ---- one column

not_equal : (m n : ℕ) → m < n → (m == n) ≡ false
not_equal m n h = grind (arith, nat_tests)

one_printed : (w y x u : ℕ) (ink : Attribute) (before : State) (spot : Spot) (a b d : List ℕ) → IsCell (record { unit = u; attr = ink }) → IsBehind spot u x w y
    → ((s : Page) → (x < s.w) × (y < s.h) → IsAt before.spot s → Leads a b s (record s { x = x; y = y; pending = false }) 0)
    → ((s : Page) → s.pen ≡ pen_for before.attr → Leads b d s (cell_printed s (record { unit = u; attr = ink })) 1)
    → ColumnStep false w y x (record { unit = u; attr = ink }) before a d (record { attr = ink; spot = spot })
unfolding cells_printed
one_printed w y x u ink before spot a b d is behind go print = λ h s st at yh xw.
    let c : Glyph = record { unit = u; attr = ink } in
    let g : Page = record s { x = x; y = y; pending = false } in
    let xs : x < s.w = omega (arith, xw, st.wide) in
    let ys : y < s.h = omega (arith, yh, st.high) in
    let below : y * w + w ≤ h * w = omega (arith, mul-le (y + 1) w h w (omega arith) (omega arith)) in
    let long : length s.cells ≡ h * w = st.page.cells ∙ rw (st.wide, st.high) refl in
    let here : place g ≡ y * w + x = rw st.wide refl in
    let room : place g + 1 ≤ length s.cells = omega (arith, here, long, below, xw) in
    let closed : cell_printed g c ≡ ran g before.attr (c ∷ []) = run g before.attr (c ∷ []) (is, tt) refl st.pen xs (omega (arith, xs)) room in
    let fits : length (pasted s.cells (place g) (c ∷ [])) ≡ length s.cells = length-pasted s.cells (place g) (c ∷ []) room in
    let column : (ran g before.attr (c ∷ [])).x < s.w = omega (arith, xs) in
    record {
      to = ran g before.attr (c ∷ []);
      count = 1;
      leads = leads_then a b d s g (ran g before.attr (c ∷ [])) 0 1 1 (go s (xs, ys) at) (rw closed at (print g st.pen)) (omega arith);
      few = omega arith;
      cells = ap (λ z. pasted s.cells z (c ∷ [])) here;
      stands = record {
        page = record { width = st.page.width; height = st.page.height; cells = fits ∙ st.page.cells; column = column; row = ys; pen = pen_is ink is.attr };
        wide = st.wide;
        high = st.high;
        pen = refl;
      };
      place = record {
        at = λ k.
            let q = behind.behind k in
            let less : x + 1 < s.w = omega (arith, q.2, st.wide) in
            (omega (arith, q.0, less), sym q.1, not_equal (x + 1) s.w less);
      };
      visible = refl;
    }

pub column_printed : (kept : Bool) (w y x : ℕ) (c : Glyph) (before : State) (spot : Spot) (a b d : List ℕ) → kept ≡ false → (u : ℕ) (ink : Attribute) → u ≡ c.unit → ink ≡ c.attr → IsCell (record { unit = u; attr = ink }) → IsBehind spot u x w y
    → ((s : Page) → (x < s.w) × (y < s.h) → IsAt before.spot s → Leads a b s (record s { x = x; y = y; pending = false }) 0)
    → ((s : Page) → s.pen ≡ pen_for before.attr → Leads b d s (cell_printed s (record { unit = u; attr = ink })) 1)
    → ColumnStep kept w y x c before a d (record { attr = ink; spot = spot })
column_printed true w y x c before spot a b d e u ink eu ei is behind go print = cc
column_printed false w y x c before spot a b d e u ink eu ei is behind go print =
    let same : record { unit = u; attr = ink } ≡ c = rw (eu, ei) refl in
    rw same at (one_printed w y x u ink before spot a b d is behind go print)

-- ---- one more column

pasted_then : (c : List Glyph) (at : ℕ) (p q : List Glyph) → at + length p + length q ≤ length c → pasted (pasted c at p) (at + length p) q ≡ pasted c at (p ++ q)
unfolding pasted
pasted_then c at p q h =
    let t : List Glyph = take at c in let d : List Glyph = drop (at + length p) c in
    let tl : length (t ++ p) ≡ at + length p = omega (arith, length-append t p, length-take-le at c (omega arith)) in
    let front : take (at + length p) ((t ++ p) ++ d) ≡ t ++ p = take_at (t ++ p) d (at + length p) tl in
    let back : drop (at + length p + length q) ((t ++ p) ++ d) ≡ drop (at + length p + length q) c =
    sym (drop-drop (length q) (at + length p) ((t ++ p) ++ d)) ∙ ap (drop (length q)) (drop_at (t ++ p) d (at + length p) tl) ∙ drop-drop (length q) (at + length p) c in
    let n : at + length (p ++ q) ≡ at + length p + length q = omega (arith, length-append p q) in
    rw (front, back, n) (simp append_assoc)

-- cells that stand there
pub pasted_begin : (c : List Glyph) (at w from : ℕ) → at + w ≤ length c → from ≤ w → pasted c at (take from (take w (drop at c))) ≡ c
unfolding pasted
pasted_begin c at w from h le =
    let now : List Glyph = take w (drop at c) in
    let n : length now ≡ w = length-take-le w (drop at c) (omega (arith, length-drop at c)) in
    let m : length (take from now) ≡ from = length-take-le from now (omega (arith, n)) in
    let e : take w (drop at c) ++ drop w (drop at c) ≡ drop at c = take-append-drop w (drop at c) in
    let back : drop (at + from) c ≡ drop from now ++ drop w (drop at c) =
    sym (drop-drop from at c) ∙ ap (drop from) (sym e) ∙ drop-append-le from now (drop w (drop at c)) (omega (arith, n)) in
    let joined : take from now ++ drop from now ≡ now = take-append-drop from now in
    rw (m, back) (append_assoc (take at c) (take from now) (drop from now ++ drop w (drop at c)) ∙ ap (λ z. take at c ++ z) (sym (append_assoc (take from now) (drop from now) (drop w (drop at c))) ∙ ap (λ z. z ++ drop w (drop at c)) joined ∙ e) ∙ take-append-drop at c)

pub columns_none : (known : Bool) (row was : List Glyph) (y from : ℕ) (before : State) (old : List ℕ) → from ≤ length row → FirstColumns known row was y from from before old old before
columns_none known row was y from before old le = λ h s st at yh seen front.
    let w : ℕ = length row in
    let below : y * w + w ≤ h * w = omega (arith, mul-le (y + 1) w h w (omega arith) (omega arith)) in
    let long : length s.cells ≡ h * w = st.page.cells ∙ rw (st.wide, st.high) refl in
    let now : List Glyph = row_of w s.cells y in
    let now_length : length now ≡ w = length-take-le w (drop (y * w) s.cells) (omega (arith, length-drop (y * w) s.cells, long, below)) in
    record {
      to = s;
      count = 0;
      leads = leads-none old s;
      few = omega arith;
      cells = sym (ap (pasted s.cells (y * w)) front ∙ pasted_begin s.cells (y * w) w from (omega (arith, long, below)) le);
      stands = st;
      place = at;
      visible = refl;
    }

kept_cell : (c row : List Glyph) (at w x : ℕ) (a : Glyph) → at + w ≤ length c → length row ≡ w → x < w → get_or row x a ≡ get_or (take w (drop at c)) x a → pasted c at (take (x + 1) row) ≡ pasted c at (take x row)
unfolding pasted
kept_cell c row at w x a h long lt same =
    let one : Glyph = get_or row x a in
    let r : take (x + 1) row ≡ take x row ++ one ∷ [] = take_more row x a (omega arith) in
    let m : length (take x row) ≡ x = length-take-le x row (omega arith) in
    let n : length (take (x + 1) row) ≡ x + 1 = length-take-le (x + 1) row (omega arith) in
    let inside : at + x < length c = omega arith in
    let there : get_or c (at + x) a ≡ one = sym (get_or-drop at c x a) ∙ sym (get_or-take w (drop at c) x a lt) ∙ sym same in
    let back : drop (at + x) c ≡ one ∷ drop (at + x + 1) c = drop_more c (at + x) a inside ∙ ap (λ z. z ∷ drop (at + x + 1) c) there in
    let sum : at + (x + 1) ≡ at + x + 1 = omega arith in
    rw (n, m, back, r, sum) (simp append_assoc)

pub columns_turn : (kept known : Bool) (row was : List Glyph) (y from x : ℕ) (one : Glyph) (before state after : State) (old mid new : List ℕ) → x < length row → length row ≡ length was → one ≡ get_or row x one
    → (kept ≡ true → known ≡ true) → (kept ≡ true → IsSameAt row was x) → FirstColumns known row was y from x before old mid state → ColumnStep kept (length row) y x one state mid new after → FirstColumns known row was y from (x + 1) before old new after
columns_turn true known row was y from x one before state after old mid new lt e is sure same first step = λ h s st at yh seen front.
    let w : ℕ = length row in
    let r = first h s st at yh seen front in
    let below : y * w + w ≤ h * w = omega (arith, mul-le (y + 1) w h w (omega arith) (omega arith)) in
    let long : length s.cells ≡ h * w = st.page.cells ∙ rw (st.wide, st.high) refl in
    let there : get_or row x one ≡ get_or (row_of w s.cells y) x one = same refl one ∙ ap (λ zs. get_or zs x one) (sym (seen (sure refl))) in
    rw (step.0, step.1) (record {
      to = r.to;
      count = r.count;
      leads = r.leads;
      few = omega (arith, r.few);
      cells = r.cells ∙ sym (kept_cell s.cells row (y * w) w x one (omega (arith, long, below)) refl lt there);
      stands = r.stands;
      place = r.place;
      visible = r.visible;
    })
columns_turn false known row was y from x one before state after old mid new lt e is sure same first step = λ h s st at yh seen front.
    let w : ℕ = length row in
    let r = first h s st at yh seen front in
    let p = step h r.to r.stands r.place yh lt in
    let below : y * w + w ≤ h * w = omega (arith, mul-le (y + 1) w h w (omega arith) (omega arith)) in
    let long : length s.cells ≡ h * w = st.page.cells ∙ rw (st.wide, st.high) refl in
    let m : length (take x row) ≡ x = length-take-le x row (omega arith) in
    let more : take (x + 1) row ≡ take x row ++ one ∷ [] = take_more row x one lt ∙ ap (λ z. take x row ++ z ∷ []) (sym is) in
    let joined : pasted (pasted s.cells (y * w) (take x row)) (y * w + length (take x row)) (one ∷ []) ≡ pasted s.cells (y * w) (take x row ++ one ∷ []) = pasted_then s.cells (y * w) (take x row) (one ∷ []) (omega (arith, m, long, below)) in
    record {
      to = p.to;
      count = r.count + p.count;
      leads = leads_then old mid new s r.to p.to r.count p.count (r.count + p.count) r.leads p.leads refl;
      few = omega (arith, r.few, p.few);
      cells = p.cells ∙ ap (λ z. pasted z (y * w + x) (one ∷ [])) r.cells ∙ rw m at joined ∙ ap (pasted s.cells (y * w)) (sym more);
      stands = p.stands;
      place = p.place;
      visible = p.visible ∙ r.visible;
    }

-- ---- some more columns

pub run_erased : (w y x n : ℕ) (before : State) (ink : Attribute) (a b c d : List ℕ) → ink ≡ plain 7 → 0 < n → x + n ≤ w
    → ((s : Page) → (x < s.w) × (y < s.h) → IsAt before.spot s → Leads a b s (record s { x = x; y = y; pending = false }) 0)
    → ((s : Page) → s.pen ≡ pen_for before.attr → Leads b c s (record s { pen = pen_for (plain 7) }) 0)
    → ((s : Page) → s.x + n ≤ s.w → Leads c d s (unpended (erased s (place s) (place s + n))) n)
    → RunStep w y x n before a d (record { attr = ink; spot = record { known = true; x = x; y = y } })
run_erased w y x n before ink a b c d seven some fits go pen erase = λ h s st at yh.
    let g : Page = record s { x = x; y = y; pending = false } in
    let g2 : Page = record g { pen = pen_for (plain 7) } in
    let xs : x < s.w = omega (arith, fits, some, st.wide) in
    let ys : y < s.h = omega (arith, yh, st.high) in
    let wide : x + n ≤ s.w = omega (arith, fits, st.wide) in
    let below : y * w + w ≤ h * w = omega (arith, mul-le (y + 1) w h w (omega arith) (omega arith)) in
    let long : length s.cells ≡ h * w = st.page.cells ∙ rw (st.wide, st.high) refl in
    let size : y * w + x + n - (y * w + x) ≡ n = omega arith in
    let same : filled s.cells (y * s.w + x) (y * s.w + x + n) blank_cell ≡ pasted s.cells (y * w + x) (replicate n blank_cell) =
    rw st.wide (filled_is s.cells (y * w + x) (y * w + x + n) blank_cell (omega arith) ∙ ap (λ z. pasted s.cells (y * w + x) (replicate z blank_cell)) size) in
    let room : y * w + x + length (replicate n blank_cell) ≤ length s.cells = omega (arith, length-replicate n blank_cell, long, below, fits) in
    let kept : length (filled s.cells (y * s.w + x) (y * s.w + x + n) blank_cell) ≡ length s.cells = ap length same ∙ length-pasted s.cells (y * w + x) (replicate n blank_cell) room in
    record {
      to = unpended (erased g2 (place g2) (place g2 + n));
      count = n;
      leads = leads_then a c d s g2 _ 0 n n (leads_then a b c s g g2 0 0 0 (go s (xs, ys) at) (pen g st.pen) (omega arith)) (erase g2 wide) (omega arith);
      few = omega arith;
      cells = same;
      stands = record {
        page = record { width = st.page.width; height = st.page.height; cells = kept ∙ st.page.cells; column = xs; row = ys; pen = small_pen };
        wide = st.wide;
        high = st.high;
        pen = rw seven refl;
      };
      place = record { at = λ _. (refl, refl, refl) };
      visible = refl;
    }

pub columns_run : (known : Bool) (row was : List Glyph) (y x n : ℕ) (state after : State) (mid new : List ℕ) → x + n ≤ length row → take n (drop x row) ≡ replicate n blank_cell → RunStep (length row) y x n state mid new after → MoreColumns known row was y x (x + n) state mid new after
columns_run known row was y x n state after mid new le blank step = λ from start first done h s st at yh seen front.
    let w : ℕ = length row in
    let r = done h s st at yh seen front in
    let p = step h r.to r.stands r.place yh in
    let below : y * w + w ≤ h * w = omega (arith, mul-le (y + 1) w h w (omega arith) (omega arith)) in
    let long : length s.cells ≡ h * w = st.page.cells ∙ rw (st.wide, st.high) refl in
    let m : length (take x row) ≡ x = length-take-le x row (omega arith) in
    let more : take (x + n) row ≡ take x row ++ replicate n blank_cell = take-add x n row ∙ ap (λ z. take x row ++ z) blank in
    let joined : pasted (pasted s.cells (y * w) (take x row)) (y * w + length (take x row)) (replicate n blank_cell) ≡ pasted s.cells (y * w) (take x row ++ replicate n blank_cell) = pasted_then s.cells (y * w) (take x row) (replicate n blank_cell) (omega (arith, m, length-replicate n blank_cell, long, below, le)) in
    record {
      to = p.to;
      count = r.count + p.count;
      leads = leads_then first mid new s r.to p.to r.count p.count (r.count + p.count) r.leads p.leads refl;
      few = omega (arith, r.few, p.few);
      cells = p.cells ∙ ap (λ z. pasted z (y * w + x) (replicate n blank_cell)) r.cells ∙ rw m at joined ∙ ap (pasted s.cells (y * w)) (sym more);
      stands = p.stands;
      place = p.place;
      visible = p.visible ∙ r.visible;
    }

-- ---- blanks

pub blank_run_more : (row : List Glyph) (x n : ℕ) (a : Glyph) (t : Bool) → x + n < length row → a ≡ get_or row (x + n) a → take n (drop x row) ≡ replicate n blank_cell → t ≡ same_cell a blank_cell → t ≡ true → take (n + 1) (drop x row) ≡ replicate (n + 1) blank_cell
blank_run_more row x n a t lt is before same one =
    let inside : n < length (drop x row) = omega (arith, length-drop x row) in
    let there : get_or (drop x row) n a ≡ a = get_or-drop x row n a ∙ sym is in
    take_more (drop x row) n a inside ∙ ap (λ z. take n (drop x row) ++ z ∷ []) (there ∙ one_same a blank_cell (sym same ∙ one)) ∙ ap (λ z. z ++ blank_cell ∷ []) before ∙ sym (replicate_next n blank_cell)

pub kept_same : (row was : List Glyph) (x : ℕ) (a b : Glyph) → x < length row → length row ≡ length was → a ≡ get_or row x a → b ≡ get_or was x b → same_cell a b ≡ true → IsSameAt row was x
kept_same row was x a b lt e ea eb t = λ c. any_default row x c a lt ∙ sym ea ∙ one_same a b t ∙ eb ∙ any_default was x b c (omega (arith, lt, e))
