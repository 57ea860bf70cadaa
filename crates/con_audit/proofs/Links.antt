-- What is read of a link that stands in memory are its frames.
use Rattle.std.proofs.Common.{◌≡◌, ◌⊎◌, inl, inr, ℕ, ◌+◌, ◌<◌, ◌≤◌, true, List, ◌++◌, length, refl, sym, ap, ◌∙◌, arith, append_assoc, length-append}
use Rattle.std.specs.Prelude.{flat_map, Some, Err}
use Rattle.std.specs.List.{list_all}
use Rattle.con_units.specs.declared.view.Frame.{Frame}
use Rattle.con_units.specs.declared.view.FrameFault.{FrameFault}
use Rattle.con_outside.specs.Outside.{Rose, then_left}
use Rattle.con_link.specs.Frames.{spelling, is_frame, goes_on}
use Rattle.con_link.specs.Plainly.{IsLink, Answers}
use Rattle.con_link.specs.declared.fault.LinkFault.TheVariants as faults
use Rattle.con_audit.specs.Audit.{AreFrames}

same_text : (link front rest : List ℕ) → Some link ≡ then_left front (Some rest) → link ≡ front ++ rest
same_text link front rest e = cc

pub read_whole : (link rest : List ℕ) (frames : List Frame) → Some link ≡ then_left (flat_map spelling frames) (Some rest) → list_all is_frame frames ≡ true
    → IsLink frames (Some rest) → AreFrames link frames
read_whole link rest frames e f w = record { rest = rest; text = same_text link (flat_map spelling frames) rest e; frames' = f; stop = inl w }

-- up to a place where no frame stands
pub read_front : (link taken left : List ℕ) (frames : List Frame) (at : ℕ) (kind : FrameFault) → Some link ≡ then_left (flat_map spelling frames ++ taken) (Some left)
    → list_all is_frame frames ≡ true → list_all goes_on frames ≡ true
    → Answers (Err (faults.Bad at kind)) (length (flat_map spelling frames)) taken (Some left) → AreFrames link frames
read_front link taken left frames at kind e f k a =
    let all' : link ≡ flat_map spelling frames ++ (taken ++ left) = same_text link (flat_map spelling frames ++ taken) left e ∙ append_assoc (flat_map spelling frames) taken left in
    record { rest = taken ++ left; text = all'; frames' = f; stop = inr (k, kind, taken, left, refl, a.1) }

pub never_long : (link text left : List ℕ) (frames : List Frame) → Some link ≡ then_left (flat_map spelling frames ++ text) (Some left) → length link ≤ 16777216
    → Answers (Err faults.TooLong) (length (flat_map spelling frames)) text (Some left) → ⊥
never_long link text left frames e few a =
    let all' : length link ≡ length (flat_map spelling frames) + length text + length left =
    ap length (same_text link (flat_map spelling frames ++ text) left e) ∙ length-append (flat_map spelling frames ++ text) left
    ∙ ap (λ n. n + length left) (length-append (flat_map spelling frames) text) in
    let over : length (flat_map spelling frames) + length text ≡ 16777217 = a.0 in
    absurd (omega (arith, all', over, few))

pub never_fails : Rose 0 0 → ⊥
never_fails r = elim r [ inl e ↦ absurd (omega (arith, e)) | inr e ↦ absurd (omega (arith, e)) ]
