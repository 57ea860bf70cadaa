-- The cursor at the end of a frame.
use Rattle.std.proofs.Common.{◌≡◌, ℕ, ◌<◌, Bool, true, false, cond, not, List, refl, sym, ap, ◌∙◌, arith}
use Rattle.con_term.specs.Page.{Page}
use Rattle.con_strokes.specs.Leads.{Leads}
use Rattle.con_paint.specs.Placed.{Placed}
use Rattle.con_paint.specs.declared.frame.Caret.{Caret}
use Rattle.con_strokes.specs.Spot.{IsAt}
use Rattle.con_strokes.specs.declared.spot.Spot.{Spot}
use Rattle.con_strokes.proofs.LeadLemmas.{leads_then, leads-none}

-- the cursor's turn, behind a place
turned : (old mid new : List ℕ) (s t : Page) (turn visible : Bool) → (turn ≡ false → t.visible ≡ visible) → Leads old mid s t 0 → ((r : Page) → Leads mid new r (cond turn (record r { visible = visible }) r) 0) → Leads old new s (record t { visible = visible }) 0
turned old mid new s t true visible h a b = leads_then old mid new s t _ 0 0 0 a (b t) (omega arith)
turned old mid new s t false visible h a b = rw (← h refl) (leads_then old mid new s t t 0 0 0 a (b t) (omega arith))

-- whether the cursor shows, where it does not turn
seen_so : (known hidden before was now : Bool) → (hidden ≡ true → now ≡ false) → (hidden ≡ false → (known ≡ true) × (was ≡ now)) → (hidden ≡ true → before ≡ false) → (hidden ≡ false → known ≡ true → before ≡ was) → before ≡ now
seen_so known true before was now a b c d = c refl ∙ sym (a refl)
seen_so known false before was now a b c d = let k = b refl in d refl k.0 ∙ k.1

pub finished : (old mid new : List ℕ) (s : Page) (known hidden turn was : Bool) (spot end : Spot) (caret : Caret) → end ≡ cond caret.visible (record { known = true; x = caret.x; y = caret.y }) spot
    → (turn ≡ false → hidden ≡ true → caret.visible ≡ false) → (turn ≡ false → hidden ≡ false → (known ≡ true) × (was ≡ caret.visible))
    → (s.x < s.w) × (s.y < s.h) → (caret.visible ≡ true → (caret.x < s.w) × (caret.y < s.h)) → (hidden ≡ true → s.visible ≡ false) → (hidden ≡ false → known ≡ true → s.visible ≡ was) → IsAt spot s
    → Leads old mid s (cond caret.visible (record s { x = caret.x; y = caret.y; pending = false }) s) 0 → ((r : Page) → Leads mid new r (cond turn (record r { visible = caret.visible }) r) 0) → Placed old new s caret end
finished old mid new s known hidden turn was spot end caret end_is dark kept inside fits hid shown at goes turns = by_test caret.visible refl end_is goes
  where
    seen : turn ≡ false → s.visible ≡ caret.visible
    seen f = seen_so known hidden s.visible was caret.visible (dark f) (kept f) hid shown

    by_test : (b : Bool) → caret.visible ≡ b → end ≡ cond b (record { known = true; x = caret.x; y = caret.y }) spot → Leads old mid s (cond b (record s { x = caret.x; y = caret.y; pending = false }) s) 0 → Placed old new s caret end
    by_test true v e l = record {
      x = caret.x;
      y = caret.y;
      pending = false;
      leads = turned old mid new s (record s { x = caret.x; y = caret.y; pending = false }) turn caret.visible seen l turns;
      inside = fits v;
      place = λ _. (ap (λ (z : Spot). z.x) (sym e), ap (λ (z : Spot). z.y) (sym e), refl);
      shown = λ _. (ap (λ (z : Spot). z.known) e, ap (λ (z : Spot). z.x) e, ap (λ (z : Spot). z.y) e);
    }
    by_test false v e l = record {
      x = s.x;
      y = s.y;
      pending = s.pending;
      leads = turned old mid new s s turn caret.visible seen l turns;
      inside = inside;
      place = λ k. let q = at.at (ap (λ (z : Spot). z.known) (sym e) ∙ k) in (q.0 ∙ ap (λ (z : Spot). z.x) (sym e), q.1 ∙ ap (λ (z : Spot). z.y) (sym e), q.2);
      shown = λ t. let f : true ≡ false = sym t ∙ v in cc;
    }

-- a cursor that does not show stays where it is
pub not_settled : (b : Bool) (old : List ℕ) (s t : Page) → not b ≡ true → Leads old old s (cond b t s) 0
not_settled true old s t e = cc
not_settled false old s t e = leads-none old s
