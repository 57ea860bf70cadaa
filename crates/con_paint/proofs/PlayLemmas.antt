-- A frame, played on a terminal.
use Rattle.std.proofs.Common.{◌≡◌, ℕ, ◌*◌, ◌<◌, ◌≤◌, Bool, true, false, cond, List, [], ◌++◌, length, drop, refl, sym, ap, ◌∙◌, arith}
use Rattle.std.proofs.lemmas.Nat.{mul-le}
use Rattle.std.proofs.Math.Seq.{drop-append_seam}
use Rattle.std.specs.Prelude.{pos}
use Rattle.con_units.specs.Attr.{Attribute}
use Rattle.con_units.specs.Glyph.{Glyph}
use Rattle.con_units.specs.declared.view.View.{View}
use Rattle.con_vtgram.specs.Pen.{IsPen}
use Rattle.con_term.specs.Page.{Page}
use Rattle.con_term.specs.Play.{play, printed}
use Rattle.con_term.specs.Steps.{typed}
use Rattle.con_term.specs.Terminal.{Terminal}
use Rattle.con_strokes.specs.Leads.{Leads}
use Rattle.con_strokes.specs.Ink.{pen_for}
use Rattle.con_paint.specs.Lift.{Lifts}
use Rattle.con_strokes.specs.Compared.{differing}
use Rattle.con_paint.specs.Frame.{rows_to_paint, Stands}
use Rattle.con_paint.specs.Placed.{IsCaret}
use Rattle.con_paint.specs.Drawn.{Drawn}
use Rattle.con_paint.specs.Painter.{Kept, Allows, Paints, IsKept, IsShown}
use Rattle.con_strokes.specs.Spot.{IsAt}
use Rattle.con_paint.specs.declared.frame.Caret.{Caret}
use Rattle.con_strokes.specs.declared.spot.Spot.{Spot}
use Rattle.con_strokes.specs.declared.spot.State.{State}
use Rattle.con_strokes.proofs.LeadLemmas.{leads_then}

at_most : (n m k : ℕ) → n ≤ m → m ≤ k → n ≤ k
at_most n m k a b = omega arith

same_pos : (m n : ℕ) → pos m ≡ pos n → m ≡ n
same_pos m n e = cc

clean : (t : Terminal) → t.bytes ≡ [] → t.units ≡ [] → t ≡ record { page = t.page; bytes = []; units = [] }
clean t b u = ap (λ xs. record t { bytes = xs }) b ∙ ap (λ xs. record { page = t.page; bytes = []; units = xs }) u

play_clean : (s r : Page) (n : ℕ) (old new : List ℕ) (l : Leads old new s r n) → play (record { page = s; bytes = []; units = [] }) l.bytes ≡ record { page = r; bytes = []; units = [] }
unfolding play typed
play_clean s r n old new l = rw (l.spelled.decoded, l.spelled.read, l.page) refl

cost_clean : (s r : Page) (n : ℕ) (old new : List ℕ) (l : Leads old new s r n) → printed (record { page = s; bytes = []; units = [] }) l.bytes ≡ n
unfolding printed
cost_clean s r n old new l = rw (l.spelled.decoded, l.spelled.read) l.count

appended : (old new bytes : List ℕ) → new ≡ old ++ bytes → drop (length old) new ≡ bytes
appended old new bytes e = rw e (drop-append_seam old bytes)

pub played : (t : Terminal) (r : Page) (n : ℕ) (old new : List ℕ) → t.bytes ≡ [] → t.units ≡ [] → Leads old new t.page r n → (play t (drop (length old) new) ≡ record { page = r; bytes = []; units = [] }) × (printed t (drop (length old) new) ≡ n)
played t r n old new b u l = let e = appended old new l.bytes l.appended in
    (ap (play t) e ∙ ap (λ z. play z l.bytes) (clean t b u) ∙ play_clean t.page r n old new l, ap (printed t) e ∙ ap (λ z. printed z l.bytes) (clean t b u) ∙ cost_clean t.page r n old new l)

abbrev kept : ℕ → ℕ → Bool → List Glyph → Attribute → Spot → Bool → Kept
kept w h known cells ink spot visible = record { w = w; h = h; known = known; cells = cells; attr = ink; placed = spot.known; x = spot.x; y = spot.y; visible = visible }

pub caret_inside : (w h : ℕ) (view : View) (caret : Caret) → view.size.w ≡ w → view.size.h ≡ h → IsCaret view caret → caret.visible ≡ true → (caret.x < w) × (caret.y < h)
caret_inside w h view caret ew eh is_caret e = let i = is_caret.inside (sym is_caret.visible ∙ e) in rw (← ew, ← eh) i

-- a frame's begin, and then the rest of it, from a terminal that the painter allows
pub framed : (w h : ℕ) (ink ink2 : Attribute) (v shadow shadow' : List Glyph) (known every was : Bool) (left : ℕ) (a b d : List ℕ) (spot at mid : Spot) (after : State) (caret : Caret) → (caret.visible ≡ true → (caret.x < w) × (caret.y < h))
    → (at.known ≡ true → (known ≡ true) × (spot.known ≡ true) × (at.x ≡ spot.x) × (at.y ≡ spot.y))
    → Lifts w h known v shadow shadow' at mid ink ink2 every left a b
    → ((s : Page) → Stands w h ink2 s → IsAt mid s → (known ≡ true → (s.cells ≡ shadow') × (s.visible ≡ was)) → (caret.visible ≡ true → (caret.x < w) × (caret.y < h)) → Drawn w h v (w * rows_to_paint known w h v shadow') caret after b d s)
    → (t : Terminal) → Allows (kept w h known shadow ink spot was) t → Drawn w h v (w * rows_to_paint known w h v shadow') caret after a d t.page
framed w h ink ink2 v shadow shadow' known every was left a b d spot at mid after caret inside spot_is lift draw t ok =
    let s = t.page in let is = ok.terminal in
    let here : IsAt at s = record { at = λ k. let j = spot_is k in let q = (ok.agrees j.0).place j.1 in (q.0 ∙ sym j.2, q.1 ∙ sym j.3, q.2) } in
    let lf = lift.leads s (record { page = is.page; wide = is.wide; high = is.high }) here (λ k. (ok.agrees k).pen) (λ k. (ok.agrees k).cells) in
    let s2 : Page = record s { cells = lf.0; x = lf.1.x; pen = pen_for ink2 } in
    let stands : Stands w h ink2 s2 = record { page = record { width = is.page.width; height = is.page.height; cells = lf.2 ∙ rw (is.wide, is.high) refl; column = omega (arith, lf.1.inside, is.wide); row = is.page.row; pen = lift.pen (λ k. rw (ok.agrees k).pen at is.page.pen) }; wide = is.wide; high = is.high; pen = refl } in
    let at2 : IsAt mid s2 = record { at = lf.1.place.at } in
    let r : Drawn w h v (w * rows_to_paint known w h v shadow') caret after b d s2 = draw s2 stands at2 (λ k. (lf.3 k, (ok.agrees k).visible)) inside in
    record { to = r.to; count = r.count; leads = leads_then a b d s s2 r.to 0 r.count r.count lf.1.leads r.leads (omega arith); few = r.few; stands = r.stands; cells = r.cells; place = r.place; visible = r.visible }

-- what is drawn on a terminal that the painter allows is painted
pub painted : (w h : ℕ) (ink ink2 : Attribute) (view : View) (shadow shadow' now : List Glyph) (known every was : Bool) (left : ℕ) (a b d : List ℕ) (spot at mid : Spot) (after : State) (caret : Caret) → view.size.w ≡ w → view.size.h ≡ h → now ≡ view.rows → IsCaret view caret
    → (caret.visible ≡ true → after.spot ≡ record { known = true; x = caret.x; y = caret.y })
    → Lifts w h known view.rows shadow shadow' at mid ink ink2 every left a b
    → (t : Terminal) → Allows (kept w h known shadow ink spot was) t → Drawn w h view.rows (w * rows_to_paint known w h view.rows shadow') caret after a d t.page
    → Paints (kept w h known shadow ink spot was) (kept w h true now after.attr after.spot caret.visible) view (drop (length a) d) t
painted w h ink ink2 view shadow shadow' now known every was left a b d spot at mid after caret ew eh en is_caret end lift t ok r =
    let is = ok.terminal in
    let e = played t r.to r.count a d is.no_bytes is.no_units r.leads in
    let n : ℕ = r.count in
    record {
      shows = rw e.0 (record {
        width = r.stands.wide ∙ sym ew;
        height = r.stands.high ∙ sym eh;
        cells = r.cells;
        visible = r.visible ∙ is_caret.visible;
        column = λ k. let v = is_caret.visible ∙ k in let q = end v in let p = r.place.at (ap (λ (z : Spot). z.known) q) in ap pos (p.0 ∙ ap (λ (z : Spot). z.x) q) ∙ is_caret.column k;
        row = λ k. let v = is_caret.visible ∙ k in let q = end v in let p = r.place.at (ap (λ (z : Spot). z.known) q) in ap pos (p.1 ∙ ap (λ (z : Spot). z.y) q) ∙ is_caret.row k;
        no_bytes = refl;
        no_units = refl;
      });
      allows = rw e.0 (record {
        terminal = record { page = r.stands.page; wide = r.stands.wide; high = r.stands.high; no_bytes = refl; no_units = refl };
        agrees = λ k. record { cells = r.cells ∙ sym en; pen = r.stands.pen; visible = r.visible; place = r.place.at };
      });
      first = λ k. let f : n ≤ w * rows_to_paint known w h view.rows shadow' = r.few in rw (e.1, ew, eh) (rw k at f);
      few = λ k. let f : n ≤ w * rows_to_paint known w h view.rows shadow' = r.few in let g = mul-le w (differing w h view.rows shadow') w (differing w h view.rows shadow) (omega arith) (lift.few k) in rw (e.1, ew, eh) (at_most n _ _ (rw k at f) g);
      lifted = λ k j some most is.
          let f : n ≤ w * rows_to_paint known w h view.rows shadow' = r.few in
          let le : j ≤ h = omega (arith, eh) in
          let g = mul-le w (differing w h view.rows shadow') w j (omega arith) (lift.lifted k j some le (rw (ew, eh) at is)) in
          rw (e.1, ew) (at_most n _ _ (rw k at f) g);
    }

-- ---- every painter allows some terminal

-- a place, or the first one where it is not known
abbrev place_or : Bool → ℕ → ℕ
place_or known x = cond known x 0

inside_or : (known : Bool) (x w : ℕ) → 0 < w → (known ≡ true → x < w) → place_or known x < w
inside_or true x w some h = h refl
inside_or false x w some h = some

at_place : (known : Bool) (x : ℕ) → known ≡ true → place_or known x ≡ x
at_place true x h = refl
at_place false x h = cc

abbrev allowed : Kept → Terminal
allowed p = record { page = record { w = p.w; h = p.h; cells = p.cells; x = place_or p.placed p.x; y = place_or p.placed p.y; pen = pen_for p.attr; pending = false; visible = p.visible }; bytes = []; units = [] }

pub is_allowed : (p : Kept) → IsKept p → Allows p (allowed p)
is_allowed p h = record {
  terminal = record {
    page = record {
      width = h.window.few_columns;
      height = h.window.few_rows;
      cells = h.cells;
      column = inside_or p.placed p.x p.w h.window.some_columns (λ k. (h.place k).0);
      row = inside_or p.placed p.y p.h h.window.some_rows (λ k. (h.place k).1);
      pen = h.pen;
    };
    wide = refl;
    high = refl;
    no_bytes = refl;
    no_units = refl;
  };
  agrees = λ k. record { cells = refl; pen = refl; visible = refl; place = λ q. (at_place p.placed p.x q, at_place p.placed p.y q, refl) };
}

-- so a frame is drawn on some terminal
pub some_frame : (w h : ℕ) (ink ink2 : Attribute) (v shadow shadow' : List Glyph) (known every was : Bool) (left : ℕ) (a b d : List ℕ) (spot at mid : Spot) (after : State) (caret : Caret) → IsKept (kept w h known shadow ink spot was) → (caret.visible ≡ true → (caret.x < w) × (caret.y < h))
    → (at.known ≡ true → (known ≡ true) × (spot.known ≡ true) × (at.x ≡ spot.x) × (at.y ≡ spot.y))
    → Lifts w h known v shadow shadow' at mid ink ink2 every left a b
    → ((s : Page) → Stands w h ink2 s → IsAt mid s → (known ≡ true → (s.cells ≡ shadow') × (s.visible ≡ was)) → (caret.visible ≡ true → (caret.x < w) × (caret.y < h)) → Drawn w h v (w * rows_to_paint known w h v shadow') caret after b d s)
    → Drawn w h v (w * rows_to_paint known w h v shadow') caret after a d (allowed (kept w h known shadow ink spot was)).page
some_frame w h ink ink2 v shadow shadow' known every was left a b d spot at mid after caret is inside spot_is lift draw =
    let p = kept w h known shadow ink spot was in
    framed w h ink ink2 v shadow shadow' known every was left a b d spot at mid after caret inside spot_is lift draw (allowed p) (is_allowed p is)

-- what bytes lead from any page stands behind the old ones
pub appends : (w h most : ℕ) (v : List Glyph) (caret : Caret) (after : State) (a d : List ℕ) (s : Page) → Drawn w h v most caret after a d s → d ≡ a ++ drop (length a) d
appends w h most v caret after a d s r = r.leads.appended ∙ ap (λ xs. a ++ xs) (sym (appended a d r.leads.bytes r.leads.appended))

-- a place that is known lies inside
pub ends_inside : (w h most : ℕ) (v : List Glyph) (caret : Caret) (after : State) (a d : List ℕ) (s : Page) → Drawn w h v most caret after a d s → after.spot.known ≡ true → (after.spot.x < w) × (after.spot.y < h)
ends_inside w h most v caret after a d s r k =
    let p = r.place.at k in
    let column = r.stands.page.column in
    let row = r.stands.page.row in
    (omega (arith, column, p.0, r.stands.wide), omega (arith, row, p.1, r.stands.high))

-- a pen that is left is one that a terminal may have
pub ends_in_pen : (w h most : ℕ) (v : List Glyph) (caret : Caret) (after : State) (a d : List ℕ) (s : Page) → Drawn w h v most caret after a d s → IsPen (pen_for after.attr)
ends_in_pen w h most v caret after a d s r = rw r.stands.pen at r.stands.page.pen

-- ---- a view that was painted last

-- nothing is written where nothing differs
pub silent : (w h : ℕ) (ink ink2 : Attribute) (view : View) (shadow shadow' : List Glyph) (known every was : Bool) (left : ℕ) (a b d : List ℕ) (spot at mid : Spot) (caret : Caret) → IsCaret view caret → IsShown (kept w h known shadow ink spot was) view
    → (known ≡ true → at ≡ spot) → Lifts w h known view.rows shadow shadow' at mid ink ink2 every left a b
    → (known ≡ true → view.rows ≡ shadow' → left ≡ 0 → was ≡ caret.visible → (caret.visible ≡ true → (mid.known ≡ true) × (mid.x ≡ caret.x) × (mid.y ≡ caret.y)) → d ≡ b) → d ≡ a
silent w h ink ink2 view shadow shadow' known every was left a b d spot at mid caret is_caret shown spot_is lift draw =
    let k = shown.known in
    let lf = lift.quiet k shown.cells in
    let seen : was ≡ caret.visible = shown.visible ∙ sym is_caret.visible in
    let same : mid ≡ spot = lf.4 ∙ spot_is k in
    let place : caret.visible ≡ true → (mid.known ≡ true) × (mid.x ≡ caret.x) × (mid.y ≡ caret.y) = λ e. let v = sym is_caret.visible ∙ e in (
      ap (λ (z : Spot). z.known) same ∙ shown.placed v,
      ap (λ (z : Spot). z.x) same ∙ same_pos spot.x caret.x (shown.column v ∙ sym (is_caret.column v)),
      ap (λ (z : Spot). z.y) same ∙ same_pos spot.y caret.y (shown.row v ∙ sym (is_caret.row v)),
    ) in
    draw k (shown.cells ∙ sym lf.1) lf.3 seen place ∙ lf.0

-- the view is what was painted last
pub now_shown : (w h : ℕ) (ink : Attribute) (view : View) (now : List Glyph) (end : Spot) (caret : Caret) → now ≡ view.rows → IsCaret view caret → (caret.visible ≡ true → end ≡ record { known = true; x = caret.x; y = caret.y }) → IsShown (kept w h true now ink end caret.visible) view
now_shown w h ink view now end caret en is_caret end_is = record {
  known = refl;
  cells = sym en;
  visible = is_caret.visible;
  placed = λ v. ap (λ (z : Spot). z.known) (end_is (is_caret.visible ∙ v));
  column = λ v. ap (λ (z : Spot). pos z.x) (end_is (is_caret.visible ∙ v)) ∙ is_caret.column v;
  row = λ v. ap (λ (z : Spot). pos z.y) (end_is (is_caret.visible ∙ v)) ∙ is_caret.row v;
}
