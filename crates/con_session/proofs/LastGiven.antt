-- The view that was given to the mirror last is the one that was painted last.
use Rattle.std.proofs.Common.{◌≡◌, ℕ, ◌<◌, Bool, true, false, List, get_or, Option, Some, None, Ok, refl, sym, ap, ◌∙◌, subst, inl, inr}
use Rattle.std.specs.Prelude.{IfSome}
use Rattle.std.proofs.lemmas.List.{get_or-replicate}
use Rattle.con_units.specs.View.{row_of}
use Rattle.con_units.specs.declared.view.View.{View}
use Rattle.con_mirror.specs.Mirror.{AreSince}
use Rattle.con_events.specs.declared.entry.Entry.{Entry}
use Rattle.con_events.specs.declared.reply.Reply.{Reply}
use Rattle.con_machine.specs.Marks.{AreMarks}
use Rattle.con_machine.specs.Painting.{view_now}
use Rattle.con_machine.specs.State.{State}
use Rattle.con_actors.specs.Words.Desk.{Ran}
use Rattle.con_actors.specs.Painting.{IsTied, Pictured, Pictures}
use Rattle.con_actors.specs.PaintTurns.{tied_count, tied_rows, tied_size}
use Rattle.con_actors.specs.Words.Second.{GivenBehind, IsFollowed, StaysGiven, kept_as}
use Rattle.con_actors.specs.TiedLaws.{tied_cells, tied_ran}
use Rattle.con_actors.specs.declared.desk.Picture.{Picture}

-- at a session's beginning none was given
pub followed_none : (s : State) (given : Option View) → given ≡ None → IsFollowed s given
followed_none s given e = λ last i. absurd (let none : None ≡ Some last = sym e ∙ i in cc)

-- behind entries of others, where it stays or is gone
pub followed_ran : (s t : State) (h g : List Entry) (given : Option View) → Ran s t h g → IsFollowed s given → IsFollowed t given
followed_ran s t h g given r k = λ last e. tied_ran s t h g (kept_as last) r (k last e)

pub followed_still : (s : State) (old new : Option View) → StaysGiven old new → IsFollowed s old → IsFollowed s new
followed_still s old new stays k = elim stays [
  | inl e ↦ let P : Option View → Type 0 = λ o. IsFollowed s o in subst P (sym e) k
  | inr e ↦ λ last i. absurd (let none : None ≡ Some last = sym e ∙ i in cc)
]

-- where nothing was painted on a terminal of this size all rows have marks
all_marked : (s : State) (v : View) (marks : List Bool) (y : ℕ) → Pictures v true s → AreMarks s marks → y < v.size.h → get_or marks y false ≡ false → ⊥
all_marked s v marks y p m low unmarked =
    let A : ℕ → Type 0 = λ n. y < n in
    let inside : y < (view_now s).size.h = subst A (ap (λ (x : View). x.size.h) p.view) low in
    let has : get_or marks y false ≡ true = ap (λ (l : List Bool). get_or l y false) (m.fresh (sym p.fresh'))
    ∙ get_or-replicate (view_now s).size.h y true false inside in
    absurd (let z : true ≡ false = sym has ∙ unmarked in cc)

-- a row without a mark
row_since : (s : State) (last v : View) (marks : List Bool) (y : ℕ) (fresh : Bool)
    → IsTied s (kept_as last) → Pictures v fresh s → AreMarks s marks → y < v.size.h → get_or marks y false ≡ false
    → (last.size.w ≡ v.size.w) × (row_of v.size.w v.rows y ≡ row_of v.size.w last.rows y)
row_since s last v marks y true k p m low unmarked = absurd (all_marked s v marks y p m low unmarked)
row_since s last v marks y false k p m low unmarked =
    let z = tied_size s (kept_as last) v false k p refl in
    let A : ℕ → Type 0 = λ n. y < n in
    let C : ℕ → Type 0 = λ n. row_of n v.rows y ≡ row_of n last.rows y in
    (sym z.0, subst C (sym z.0) (tied_rows s (kept_as last) v marks false k p m refl y (subst A z.1 low) unmarked))

pub pictured_since : (o : Option Picture) (given : Option View) (s t : State) (h g : List Entry) (rs qs : List Reply)
    → IsFollowed s given → Pictured (Ok o) s t h g rs qs → IfSome o (λ p. AreMarks s p.marks)
    → IfSome o (λ p. AreSince given p.view p.marks)
pictured_since None given s t h g rs qs k pic m = tt
pictured_since (Some p) given s t h g rs qs k pic m = record {
  count = tied_count s p.view p.marks p.fresh pic.0 m;
  same = λ last e y low unmarked. row_since s last p.view p.marks y p.fresh (k last e) pic.0 m low unmarked;
}

-- behind a turn of the painter
pub followed_paint : (o : Option Picture) (old new : Option View) (s t : State) (h g : List Entry) (rs qs : List Reply)
    → IsFollowed s old → Pictured (Ok o) s t h g rs qs → GivenBehind o old new → IsFollowed t new
followed_paint None old new s t h g rs qs k pic e =
    let P : State → Type 0 = λ z. IsFollowed z new in let Q : Option View → Type 0 = λ z. IsFollowed s z in subst P (sym pic.state) (subst Q (sym e) k)
followed_paint (Some p) old new s t h g rs qs k pic given = elim given [
  | inl e ↦ λ last i.
      let same : p.view ≡ last = (let q : Some p.view ≡ Some last = sym e ∙ i in cc) in
      let P : View → Type 0 = λ z. IsTied t (kept_as z) in
      subst P same (tied_cells s t h g rs qs p.view p.fresh (kept_as p.view) pic.2.enters pic.0 refl refl (refl, refl))
  | inr e ↦ λ last i. absurd (let none : None ≡ Some last = sym e ∙ i in cc)
]
