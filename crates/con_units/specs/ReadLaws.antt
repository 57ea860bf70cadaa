-- Laws of the split, whatever the sequences are: each text is read by the three cases.
use Rattle.std.proofs.Common.{◌≡◌, ℕ, true, false, List, [], ◌∷◌, ◌++◌, Some, None, refl, sym, ap, ◌∙◌, append_assoc}
use Rattle.con_units.specs.Split.{Grammar, Split, next, begun, with_items, split, split_after}
use Rattle.con_units.specs.Laws.{GoesOnBy, IsOpen, IsReadSo}
use Rattle.con_units.specs.SplitLaws.{split_after-append, split_after-one, append_none}

goes_on : {A : Type 0} (g : Grammar A) (front : List ℕ) (u : ℕ) → g.is_front (front ++ u ∷ []) ≡ true
    → next g front u ≡ record { items = []; tail = front ++ u ∷ [] }
unfolding next
goes_on g [] u h = rw h refl
goes_on g (v ∷ front) u h = rw h refl

open_from : {A : Type 0} (g : Grammar A) (front units : List ℕ) → GoesOnBy g front units
    → split_after g front units ≡ record { items = []; tail = front ++ units }
unfolding split_after
open_from g front [] h = ap (λ xs. record { items = []; tail = xs }) (sym (append_none front))
open_from g front (u ∷ us) h =
    rw (goes_on g front u h.0) (open_from g (front ++ u ∷ []) us h.1 ∙ ap (λ xs. record { items = []; tail = xs }) (append_assoc front (u ∷ []) us))

pub unfinished : {A : Type 0} (g : Grammar A) (units : List ℕ) → IsOpen g units → split g units ≡ record { items = []; tail = units }
unfinished g units h = open_from g [] units h

whole_next : {A : Type 0} (g : Grammar A) (front : List ℕ) (u : ℕ) (items : List A) → g.is_front (front ++ u ∷ []) ≡ false
    → g.whole (front ++ u ∷ []) ≡ Some items → next g front u ≡ record { items = items; tail = [] }
unfolding next
whole_next g [] u items h k = rw (h, k) refl
whole_next g (v ∷ front) u items h k = rw (h, k) refl

broken_next : {A : Type 0} (g : Grammar A) (v : ℕ) (front : List ℕ) (u : ℕ) → g.is_front (v ∷ front ++ u ∷ []) ≡ false
    → g.whole (v ∷ front ++ u ∷ []) ≡ None → g.kept (v ∷ front) ≡ [] → next g (v ∷ front) u ≡ with_items (g.broken (v ∷ front)) (begun g u)
unfolding next
broken_next g v front u h k e = rw (h, k, e) refl

-- the units behind an open front
behind : {A : Type 0} (g : Grammar A) (front rest : List ℕ) (u : ℕ) → IsOpen g front
    → split g (front ++ u ∷ rest) ≡ with_items (next g front u).items (split_after g (next g front u).tail rest)
behind g front rest u h = split_after-append g [] front (u ∷ rest)
    ∙ rw (unfinished g front h) (split_after-append g front (u ∷ []) rest ∙ rw (split_after-one g front u) refl)

first_is : {A : Type 0} (g : Grammar A) (u : ℕ) (rest : List ℕ) → split g (u ∷ rest) ≡ with_items (begun g u).items (split_after g (begun g u).tail rest)
unfolding next
first_is g u rest = split_after-append g [] (u ∷ []) rest ∙ rw (split_after-one g [] u) refl

pub read_so : {A : Type 0} (g : Grammar A) → IsReadSo g
read_so g = record {
  unfinished = unfinished g;
  whole = λ front rest u items h k w. behind g front rest u h ∙ rw (whole_next g front u items k w) refl;
  broken = λ v front rest u h k w e. behind g (v ∷ front) rest u h
      ∙ rw (broken_next g v front u k w e, first_is g u rest) (more_items g (v ∷ front) (begun g u) rest);
}
  where
    more_items : {A : Type 0} (g : Grammar A) (front : List ℕ) (s : Split A) (rest : List ℕ)
        → with_items (g.broken front ++ s.items) (split_after g s.tail rest) ≡ with_items (g.broken front) (with_items s.items (split_after g s.tail rest))
    more_items g front s rest = ap (λ xs. record { items = xs; tail = (split_after g s.tail rest).tail })
        (append_assoc (g.broken front) s.items (split_after g s.tail rest).items)
