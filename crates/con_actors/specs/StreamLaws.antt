-- The pieces of a run are the parts of its stream between the ends.
use Rattle.std.proofs.Common.{◌≡◌, ℕ, ◌+◌, ◌-◌, ◌<◌, ◌≤◌, Bool, true, false, List, [], ◌∷◌, ◌++◌, length, take, drop, Option}
use Rattle.std.proofs.Common.{Some, None, refl, sym, ap, ◌∙◌, subst, append_assoc, arith, length-append, length-take}
use Rattle.std.specs.Prelude.{nat_le}
use Rattle.std.proofs.lemmas.Bool.Decides.{nat_tests}
use Rattle.std.proofs.Math.Seq.{take-append-add, take-append_seam, drop-append_seam}
use Rattle.con_units.specs.declared.place.Size.{Size}
use Rattle.con_units.specs.declared.view.View.{View}
use Rattle.con_units.specs.declared.view.Sight.{Sight}
use Rattle.con_units.specs.declared.view.Sight.TheVariants as sights
use Rattle.con_term.specs.Play.{play}
use Rattle.con_term.specs.Terminal.{Terminal, IsTerminal}
use Rattle.con_laws.specs.TerminalRuns.{EachPaint, EachRun}
use Rattle.con_actors.specs.Words.Runs.{EachPiece, joined, ends_from}

-- past the stream nothing is claimed
nothing_past : (claim : Option View → View → List ℕ → Terminal → Type 0) (t : Terminal) (last : Option View) (from : ℕ) (stream : List ℕ)
    (ss : List Sight) (ps : List (List ℕ)) → length stream < from → EachPaint claim t last from stream ss (ends_from from ps)
unfolding EachPaint
nothing_past claim t last from stream [] ps l = tt
nothing_past claim t last from stream (sights.Resize z ∷ ss) ps l = λ u i. nothing_past claim u None from stream ss ps l
nothing_past claim t last from stream (sights.Paint v ∷ ss) [] l = tt
nothing_past claim t last from stream (sights.Paint v ∷ ss) (p ∷ ps) l = (
  omega arith,
  (λ e. absurd (omega arith)),
  nothing_past claim (play t (take (from + length p - from) (drop from stream))) (Some v) (from + length p) stream ss ps (omega arith),
)

-- the part of a stream behind what was done
pub cut_at : (done p rest : List ℕ) (k : ℕ) → take (length p) (drop (length done) (take (length done + (length p + k)) (done ++ (p ++ rest)))) ≡ p
cut_at done p rest k = ap (λ (x : List ℕ). take (length p) (drop (length done) x)) (take-append-add done (p ++ rest) (length p + k)
    ∙ ap (λ (x : List ℕ). done ++ x) (take-append-add p rest k))
    ∙ (ap (λ (x : List ℕ). take (length p) x) (drop-append_seam done (p ++ take k rest)) ∙ take-append_seam p (take k rest))

pub cut : (done p rest : List ℕ) (n : ℕ) → length done + length p ≤ length (take n (done ++ (p ++ rest)))
    → take (length done + length p - length done) (drop (length done) (take n (done ++ (p ++ rest)))) ≡ p
cut done p rest n l =
    let k = n - length done - length p in
    let m : n ≡ length done + (length p + k) = omega (arith, length-take n (done ++ (p ++ rest))) in
    let s : length done + length p - length done ≡ length p = omega arith in
    ap (λ (x : ℕ). take x (drop (length done) (take n (done ++ (p ++ rest))))) s
    ∙ (ap (λ (x : ℕ). take (length p) (drop (length done) (take x (done ++ (p ++ rest))))) m ∙ cut_at done p rest k)

-- one more piece is there whole, or the stream ends in it
pub one_piece : (claim : Option View → View → List ℕ → Terminal → Type 0) (t : Terminal) (last : Option View) (done : List ℕ) (n : ℕ) (v : View)
    (ss : List Sight) (p : List ℕ) (ps : List (List ℕ)) → claim last v p t
    → EachPaint claim (play t p) (Some v) (length (done ++ p)) (take n ((done ++ p) ++ joined ps)) ss (ends_from (length (done ++ p)) ps) → (b : Bool)
    → nat_le (length done + length p) (length (take n (done ++ (p ++ joined ps)))) ≡ b
    → EachPaint claim t last (length done) (take n (done ++ (p ++ joined ps))) (sights.Paint v ∷ ss)
    ((length done + length p) ∷ ends_from (length done + length p) ps)
unfolding EachPaint
one_piece claim t last done n v ss p ps c more true b =
    let stream = take n (done ++ (p ++ joined ps)) in
    let l : length done + length p ≤ length stream = grind (arith, nat_tests) in
    let e = cut done p (joined ps) n l in
    let P : List ℕ → Type 0 = λ x. claim last v x t in
    let A : ℕ → Type 0 = λ m. EachPaint claim (play t p) (Some v) m (take n ((done ++ p) ++ joined ps)) ss (ends_from m ps) in
    let B : List ℕ → Type 0 = λ x. EachPaint claim (play t p) (Some v) (length done + length p) (take n x) ss (ends_from (length done + length p) ps) in
    let C : List ℕ → Type 0 = λ x. EachPaint claim (play t x) (Some v) (length done + length p) stream ss (ends_from (length done + length p) ps) in
    (omega arith, (λ f. subst P (sym e) c), subst C (sym e) (subst B (append_assoc done p (joined ps)) (subst A (length-append done p) more)))
one_piece claim t last done n v ss p ps c more false b =
    let stream = take n (done ++ (p ++ joined ps)) in
    let l : length stream < length done + length p = grind (arith, nat_tests) in (
      omega arith,
      (λ f. absurd (omega arith)),
      nothing_past claim (play t (take (length done + length p - length done) (drop (length done) stream)))
          (Some v) (length done + length p) stream ss ps l,
    )

pub by_pieces : (claim : Option View → View → List ℕ → Terminal → Type 0) (t : Terminal) (last : Option View) (done : List ℕ) (n : ℕ) (ss : List Sight)
    (ps : List (List ℕ)) → EachPiece claim t last ss ps
    → EachPaint claim t last (length done) (take n (done ++ joined ps)) ss (ends_from (length done) ps)
unfolding EachPaint
by_pieces claim t last done n [] ps e = tt
by_pieces claim t last done n (sights.Resize z ∷ ss) ps e = λ u i. by_pieces claim u None done n ss ps (e u i)
by_pieces claim t last done n (sights.Paint v ∷ ss) [] e = tt
by_pieces claim t last done n (sights.Paint v ∷ ss) (p ∷ ps) e = one_piece claim t last done n v ss p ps e.0
    (by_pieces claim (play t p) (Some v) (done ++ p) n ss ps e.1) (nat_le (length done + length p) (length (take n (done ++ (p ++ joined ps))))) refl

-- in every run what is claimed of the pieces holds of the stream, as far as it was written
pub run_by_pieces : (claim : Option View → View → List ℕ → Terminal → Type 0) (size : Size) (ss : List Sight) (ps : List (List ℕ)) (n : ℕ)
    → ((t : Terminal) → IsTerminal size.w size.h t → EachPiece claim t None ss ps)
    → EachRun claim size (take n (joined ps)) ss (ends_from 0 ps)
unfolding EachRun
run_by_pieces claim size ss ps n e = λ t i. by_pieces claim t None [] n ss ps (e t i)
