-- The rows of a frame, and then its cursor.
use Rattle.std.proofs.Common.{◌≡◌, ℕ, ◌*◌, ◌<◌, Bool, true, false, cond, List, length, refl, ap, ◌∙◌, arith}
use Rattle.con_units.specs.Attr.{Attribute}
use Rattle.con_units.specs.Glyph.{Glyph}
use Rattle.con_term.specs.Page.{Page}
use Rattle.con_strokes.specs.Leads.{Leads}
use Rattle.con_paint.specs.Frame.{rows_to_paint, Stands, Reach, Rows}
use Rattle.con_paint.specs.Placed.{Placed}
use Rattle.con_paint.specs.Drawn.{Drawn}
use Rattle.con_strokes.specs.Spot.{IsAt}
use Rattle.con_paint.specs.declared.frame.Caret.{Caret}
use Rattle.con_strokes.specs.declared.spot.Spot.{Spot}
use Rattle.con_strokes.specs.declared.spot.State.{State}
use Rattle.con_strokes.proofs.LeadLemmas.{leads_then}
use Rattle.con_paint.proofs.FrameLemmas.{mixed_all}

-- a cursor that is hidden, where it is to be
dark : (hid : Bool) (s : Page) → cond hid (record s { visible = false }) s ≡ record s { visible = cond hid false s.visible }
dark true s = refl
dark false s = refl

pub drawn : (w h : ℕ) (ink : Attribute) (v shadow : List Glyph) (known hid was : Bool) (a b c d : List ℕ) (spot end : Spot) (after : State) (caret : Caret) → length v ≡ h * w
    → ((s : Page) → Leads a b s (cond hid (record s { visible = false }) s) 0)
    → Rows w h v shadow known (record { attr = ink; spot = spot }) b c h after
    → ((s : Page) → (s.x < s.w) × (s.y < s.h) → (caret.visible ≡ true → (caret.x < s.w) × (caret.y < s.h)) → (hid ≡ true → s.visible ≡ false) → (hid ≡ false → known ≡ true → s.visible ≡ was) → IsAt after.spot s → Placed c d s caret end)
    → (s : Page) → Stands w h ink s → IsAt spot s → (known ≡ true → (s.cells ≡ shadow) × (s.visible ≡ was)) → (caret.visible ≡ true → (caret.x < w) × (caret.y < h))
    → Drawn w h v (w * rows_to_paint known w h v shadow) caret (record { attr = after.attr; spot = end }) a d s
drawn w h ink v shadow known hid was a b c d spot end_spot after caret long hide rows finish s st at seen inside =
    let s3 : Page = record s { visible = cond hid false s.visible } in
    let l3 : Leads a b s s3 0 = rw (dark hid s) at (hide s) in
    let stands3 : Stands w h ink s3 = record { page = record { width = st.page.width; height = st.page.height; cells = st.page.cells; column = st.page.column; row = st.page.row; pen = st.page.pen }; wide = st.wide; high = st.high; pen = st.pen } in
    let at3 : IsAt spot s3 = record { at = at.at } in
    let r : Reach w h v after (w * rows_to_paint known w h v shadow) h b c s3 = rows.reach s3 stands3 at3 (λ k. (seen k).0) in
    let p : Placed c d r.to caret end_spot = finish r.to (r.stands.page.column, r.stands.page.row) (λ e. let i = inside e in rw (r.stands.wide, r.stands.high) i)
    (λ e. r.visible ∙ ap (λ z. cond z false s.visible) e) (λ e k. r.visible ∙ ap (λ z. cond z false s.visible) e ∙ (seen k).1) r.place in
    let to : Page = record r.to { x = p.x; y = p.y; pending = p.pending; visible = caret.visible } in
    let n : ℕ = r.count in
    record {
      to = to;
      count = n;
      leads = leads_then a c d s r.to to n 0 n (leads_then a b c s s3 r.to 0 n n l3 r.leads (omega arith)) p.leads (omega arith);
      few = r.few;
      stands = record {
        page = record { width = r.stands.page.width; height = r.stands.page.height; cells = r.stands.page.cells; column = p.inside.0; row = p.inside.1; pen = r.stands.page.pen };
        wide = r.stands.wide;
        high = r.stands.high;
        pen = r.stands.pen;
      };
      cells = r.cells ∙ mixed_all v s.cells (h * w) long (st.page.cells ∙ rw (st.wide, st.high) refl);
      place = record { at = p.place };
      visible = refl;
    }

-- nothing is written where nothing differs
pub undrawn : (w h : ℕ) (ink : Attribute) (left : ℕ) (v shadow : List Glyph) (known many hid was : Bool) (a b c d : List ℕ) (spot : Spot) (after : State) (caret : Caret) → (left ≡ 0 → many ≡ false) → (known ≡ true → many ≡ false → was ≡ caret.visible → hid ≡ false) → (hid ≡ false → b ≡ a)
    → Rows w h v shadow known (record { attr = ink; spot = spot }) b c h after
    → (known ≡ true → hid ≡ false → was ≡ caret.visible → (caret.visible ≡ true → (after.spot.known ≡ true) × (after.spot.x ≡ caret.x) × (after.spot.y ≡ caret.y)) → d ≡ c)
    → known ≡ true → v ≡ shadow → left ≡ 0 → was ≡ caret.visible → (caret.visible ≡ true → (spot.known ≡ true) × (spot.x ≡ caret.x) × (spot.y ≡ caret.y)) → d ≡ a
undrawn w h ink left v shadow known many hid was a b c d spot after caret few hide turn rows finish k same none seen place =
    let h0 = hide k (few none) seen in
    let r = rows.quiet k same in
    let stays : after.spot ≡ spot = ap (λ (z : State). z.spot) r.1 in
    finish k h0 seen (λ e. let q = place e in (ap (λ (z : Spot). z.known) stays ∙ q.0, ap (λ (z : Spot). z.x) stays ∙ q.1, ap (λ (z : Spot). z.y) stays ∙ q.2)) ∙ r.0 ∙ turn h0
