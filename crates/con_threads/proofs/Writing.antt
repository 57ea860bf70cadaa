-- What was written behind one more piece.
use Rattle.std.proofs.Common.{◌≡◌, ℕ, ◌≤◌, Bool, true, false, List, [], ◌∷◌, ◌++◌, length, take, Option, refl, sym, ap, ◌∙◌, subst, arith, length-append}
use Rattle.std.specs.Prelude.{◌||◌}
use Rattle.std.proofs.Math.Seq.{take-length}
use Rattle.std.proofs.lemmas.List.{take-append-le}
use Rattle.con_outside.specs.Outside.{then_written, WroteFront}
use Rattle.con_actors.specs.CanvasLaws.{joined_more, written_more}
use Rattle.con_actors.specs.Painting.{Written}
use Rattle.con_actors.specs.Words.Runs.{joined}
use Rattle.con_threads.specs.Writers.{Writes}

-- ---- a piece

-- one that was dropped
pub written_less : (before now : Option (List ℕ)) (ps : List (List ℕ)) (p : List ℕ) → Written before now ps true → Written before now (ps ++ p ∷ []) true
written_less before now ps p w =
    let j = joined_more ps p in
    let l : w.count ≤ length (joined ps) = w.most in
    record {
      count = w.count;
      most = omega (arith, l, ap (λ (x : List ℕ). length x) j, length-append (joined ps) p);
      front = w.front ∙ ap (λ (x : List ℕ). then_written before x) (sym (take-append-le w.count (joined ps) p l) ∙ ap (λ (x : List ℕ). take w.count x) (sym j));
      whole = λ e. absurd (cc);
    }

pub written_any : (before now : Option (List ℕ)) (ps : List (List ℕ)) (failed : Bool) → Written before now ps failed → Written before now ps true
written_any before now ps failed w = record { count = w.count; most = w.most; front = w.front; whole = λ e. absurd (cc) }

-- one that was written whole
pub written_whole : (before now later : Option (List ℕ)) (ps : List (List ℕ)) (p slice : List ℕ) → slice ≡ p → Written before now ps false
    → later ≡ then_written now slice → Written before later (ps ++ p ∷ []) false
written_whole before now later ps p slice s w e =
    let n : ℕ = length p in
    written_more before now later ps p n false w (omega arith) (e ∙ ap (λ (x : List ℕ). then_written now x) (s ∙ sym (take-length p))) (λ f. refl)

-- one of which a front was written
pub written_part : (before now later : Option (List ℕ)) (ps : List (List ℕ)) (p slice : List ℕ) → slice ≡ p → Written before now ps false
    → WroteFront slice now later → Written before later (ps ++ p ∷ []) true
written_part before now later ps p slice s w f =
    let P : List ℕ → Type 0 = λ x. WroteFront x now later in
    let q = subst P s f in
    written_more before now later ps p q.0 true w q.1 q.2 (λ e. absurd (cc))

-- ---- by the writer

or_left : (failed broken : Bool) → failed ≡ true → (failed || broken) ≡ true
or_left failed broken e = ap (λ (b : Bool). b || broken) e

pub or_right : (failed broken : Bool) → broken ≡ true → (failed || broken) ≡ true
or_right true broken e = refl
or_right false broken e = e

or_none : (failed broken : Bool) → failed ≡ false → broken ≡ false → (failed || broken) ≡ false
or_none failed broken e f = ap (λ (b : Bool). b || broken) e ∙ f

-- it writes none
pub writes_none : (before now : Option (List ℕ)) (ps : List (List ℕ)) (p : List ℕ) (done : Bool) → done ≡ true → Written before now ps done
    → Written before now (ps ++ p ∷ []) done
writes_none before now ps p done e w =
    let P : Bool → Type 0 = λ b. Written before now ps b in
    let Q : Bool → Type 0 = λ b. Written before now (ps ++ p ∷ []) b in
    subst Q (sym e) (written_less before now ps p (subst P e w))

pub writes_failed : (before now : Option (List ℕ)) (ps : List (List ℕ)) (p : List ℕ) (failed broken : Bool) → failed ≡ true → Writes before now ps failed broken
    → Writes before now (ps ++ p ∷ []) failed broken
writes_failed before now ps p failed broken e w = writes_none before now ps p (failed || broken) (or_left failed broken e) w

pub writes_broken : (before now : Option (List ℕ)) (ps : List (List ℕ)) (p : List ℕ) (failed broken : Bool) → broken ≡ true → Writes before now ps failed broken
    → Writes before now (ps ++ p ∷ []) failed broken
writes_broken before now ps p failed broken e w = writes_none before now ps p (failed || broken) (or_right failed broken e) w

fine : (before now : Option (List ℕ)) (ps : List (List ℕ)) (failed broken : Bool) → failed ≡ false → broken ≡ false → Writes before now ps failed broken
    → Written before now ps false
fine before now ps failed broken e f w = let P : Bool → Type 0 = λ b. Written before now ps b in subst P (or_none failed broken e f) w

-- it writes one whole
pub writes_whole : (before now later : Option (List ℕ)) (ps : List (List ℕ)) (p slice : List ℕ) (failed broken : Bool) → failed ≡ false → broken ≡ false
    → slice ≡ p → later ≡ then_written now slice → Writes before now ps failed broken → Writes before later (ps ++ p ∷ []) failed broken
writes_whole before now later ps p slice failed broken e f s l w =
    let Q : Bool → Type 0 = λ b. Written before later (ps ++ p ∷ []) b in
    subst Q (sym (or_none failed broken e f)) (written_whole before now later ps p slice s (fine before now ps failed broken e f w) l)

-- it writes one in part, at most
pub writes_part : (before now later : Option (List ℕ)) (ps : List (List ℕ)) (p slice : List ℕ) (failed broken done : Bool) → done ≡ true → failed ≡ false
    → broken ≡ false → slice ≡ p → WroteFront slice now later → Writes before now ps failed broken → Written before later (ps ++ p ∷ []) done
writes_part before now later ps p slice failed broken done d e f s l w =
    let Q : Bool → Type 0 = λ b. Written before later (ps ++ p ∷ []) b in
    subst Q (sym d) (written_part before now later ps p slice s (fine before now ps failed broken e f w) l)
