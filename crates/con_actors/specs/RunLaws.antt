-- Terminal runs that go on.
use Rattle.std.proofs.Common.{◌≡◌, ℕ, List, [], ◌∷◌, ◌++◌, Option, Some, None, refl, sym, subst}
use Rattle.con_units.specs.declared.place.Size.{Size}
use Rattle.con_units.specs.declared.view.View.{View}
use Rattle.con_units.specs.declared.view.Sight.{Sight}
use Rattle.con_units.specs.declared.view.Sight.TheVariants as sights
use Rattle.con_term.specs.Play.{play}
use Rattle.con_term.specs.Terminal.{Terminal, IsTerminal}
use Rattle.con_actors.specs.Words.Runs.{Matched, EachPiece, Reaches}

-- one more Paint with its piece
pub matched_paint : (ss : List Sight) (ps : List (List ℕ)) (v : View) (p : List ℕ) → Matched ss ps → Matched (ss ++ sights.Paint v ∷ []) (ps ++ p ∷ [])
matched_paint [] [] v p m = tt
matched_paint [] (q ∷ qs) v p m = absurd m
matched_paint (sights.Resize z ∷ ss) ps v p m = matched_paint ss ps v p m
matched_paint (sights.Paint w ∷ ss) [] v p m = absurd m
matched_paint (sights.Paint w ∷ ss) (q ∷ qs) v p m = matched_paint ss qs v p m

pub piece_paint : (claim : Option View → View → List ℕ → Terminal → Type 0) (t : Terminal) (last : Option View) (ss : List Sight) (ps : List (List ℕ))
    (v : View) (p : List ℕ) → Matched ss ps → EachPiece claim t last ss ps
    → ((u : Terminal) (l : Option View) → Reaches t last ss ps u l → claim l v p u) → EachPiece claim t last (ss ++ sights.Paint v ∷ []) (ps ++ p ∷ [])
piece_paint claim t last [] [] v p m e f = (f t last (refl, refl), tt)
piece_paint claim t last [] (q ∷ qs) v p m e f = absurd m
piece_paint claim t last (sights.Resize z ∷ ss) ps v p m e f = λ u i. piece_paint claim u None ss ps v p m (e u i) (λ x l r. f x l (u, i, r))
piece_paint claim t last (sights.Paint w ∷ ss) [] v p m e f = absurd m
piece_paint claim t last (sights.Paint w ∷ ss) (q ∷ qs) v p m e f = (e.0, piece_paint claim (play t q) (Some w) ss qs v p m e.1 f)

pub reach_paint : (t : Terminal) (last : Option View) (ss : List Sight) (ps : List (List ℕ)) (v : View) (p : List ℕ) (u : Terminal) (l : Option View)
    → Matched ss ps → Reaches t last (ss ++ sights.Paint v ∷ []) (ps ++ p ∷ []) u l
    → (x : Terminal) × (y : Option View) × Reaches t last ss ps x y × (u ≡ play x p) × (l ≡ Some v)
reach_paint t last [] [] v p u l m r = (t, last, (refl, refl), r.0, r.1)
reach_paint t last [] (q ∷ qs) v p u l m r = absurd m
reach_paint t last (sights.Resize z ∷ ss) ps v p u l m (w, i, r) = let d = reach_paint w None ss ps v p u l m r in (d.0, d.1, (w, i, d.2), d.3, d.4)
reach_paint t last (sights.Paint w ∷ ss) [] v p u l m r = absurd m
reach_paint t last (sights.Paint w ∷ ss) (q ∷ qs) v p u l m r = reach_paint (play t q) (Some w) ss qs v p u l m r

-- one more Paint without one: nothing is claimed of it
pub piece_none : (claim : Option View → View → List ℕ → Terminal → Type 0) (t : Terminal) (last : Option View) (ss : List Sight) (ps : List (List ℕ)) (v : View)
    → Matched ss ps → EachPiece claim t last ss ps → EachPiece claim t last (ss ++ sights.Paint v ∷ []) ps
piece_none claim t last [] [] v m e = tt
piece_none claim t last [] (q ∷ qs) v m e = absurd m
piece_none claim t last (sights.Resize z ∷ ss) ps v m e = λ u i. piece_none claim u None ss ps v m (e u i)
piece_none claim t last (sights.Paint w ∷ ss) [] v m e = absurd m
piece_none claim t last (sights.Paint w ∷ ss) (q ∷ qs) v m e = (e.0, piece_none claim (play t q) (Some w) ss qs v m e.1)

-- one more Resize
pub matched_resize : (ss : List Sight) (ps : List (List ℕ)) (z : Size) → Matched ss ps → Matched (ss ++ sights.Resize z ∷ []) ps
matched_resize [] [] z m = tt
matched_resize [] (q ∷ qs) z m = absurd m
matched_resize (sights.Resize y ∷ ss) ps z m = matched_resize ss ps z m
matched_resize (sights.Paint w ∷ ss) [] z m = absurd m
matched_resize (sights.Paint w ∷ ss) (q ∷ qs) z m = matched_resize ss qs z m

pub piece_resize : (claim : Option View → View → List ℕ → Terminal → Type 0) (t : Terminal) (last : Option View) (ss : List Sight) (ps : List (List ℕ))
    (z : Size) → Matched ss ps → EachPiece claim t last ss ps → EachPiece claim t last (ss ++ sights.Resize z ∷ []) ps
piece_resize claim t last [] [] z m e = λ u i. tt
piece_resize claim t last [] (q ∷ qs) z m e = absurd m
piece_resize claim t last (sights.Resize y ∷ ss) ps z m e = λ u i. piece_resize claim u None ss ps z m (e u i)
piece_resize claim t last (sights.Paint w ∷ ss) [] z m e = absurd m
piece_resize claim t last (sights.Paint w ∷ ss) (q ∷ qs) z m e = (e.0, piece_resize claim (play t q) (Some w) ss qs z m e.1)

pub reach_resize : (t : Terminal) (last : Option View) (ss : List Sight) (ps : List (List ℕ)) (z : Size) (u : Terminal) (l : Option View) → Matched ss ps
    → Reaches t last (ss ++ sights.Resize z ∷ []) ps u l
    → IsTerminal z.w z.h u × (l ≡ None)
reach_resize t last [] [] z u l m (x, i, r) = let P : Terminal → Type 0 = λ y. IsTerminal z.w z.h y in (subst P (sym r.0) i, r.1)
reach_resize t last [] (q ∷ qs) z u l m r = absurd m
reach_resize t last (sights.Resize y ∷ ss) ps z u l m (x, i, r) = reach_resize x None ss ps z u l m r
reach_resize t last (sights.Paint w ∷ ss) [] z u l m r = absurd m
reach_resize t last (sights.Paint w ∷ ss) (q ∷ qs) z u l m r = reach_resize (play t q) (Some w) ss qs z u l m r
