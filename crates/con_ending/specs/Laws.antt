-- The status of a call by how its report was written, and how the report goes then.
use Rattle.std.proofs.Common.{◌≡◌, ◌≢◌, ◌<◌, inl, inr, refl, sym, subst, ◌∙◌, ℕ, zero, List, [], ◌∷◌, length, Option, arith}
use Rattle.std.specs.Prelude.{Result, Ok, Err, OnOk, OnErr}
use Rattle.con_outside.specs.Laws.{then_written-none}
use Rattle.con_outside.specs.Outside.{then_written, WrotePart}
use Rattle.con_outside.specs.declared.traits.Fault.{Fault}
use Rattle.con_outside.specs.declared.traits.Fault.TheVariants as faults
use Rattle.con_lines.specs.Line.{ended}
use Rattle.con_ending.specs.Ending.{Reported, lost_status}

-- the status of a call that wrote its report so, where the report tells this one
abbrev pub status_after : Result (Unit {0}) Fault → ℕ → ℕ
status_after (Ok done) told = told
status_after (Err faults.Failed) told = lost_status told
status_after (Err faults.OutOfMemory) told = 9

-- What a write makes of the report: it is whole, or a part of it where the write is refused, which is a failure but for want of memory.
pub reported_by : (written : Result (Unit {0}) Fault) (status told : ℕ) (text : List ℕ) (before now : Option (List ℕ)) (failed : Type 0)
    → status ≡ status_after written told → OnOk written (now ≡ then_written before text) → OnErr written (WrotePart text before now)
    → (written ≡ Err faults.Failed → failed) → Reported status told text before now failed
reported_by (Ok done) status told text before now failed is whole part fault = inl (is, whole)
reported_by (Err faults.Failed) status told text before now failed is whole part fault = inr (inl (is, part, fault refl))
reported_by (Err faults.OutOfMemory) status told text before now failed is whole part fault = inr (inr (is, part))

-- the same, where the bytes that were written are the text
pub reported_of : (written : Result (Unit {0}) Fault) (status told : ℕ) (bytes text : List ℕ) (before now : Option (List ℕ)) (failed : Type 0)
    → bytes ≡ text → status ≡ status_after written told → OnOk written (now ≡ then_written before bytes) → OnErr written (WrotePart bytes before now)
    → (written ≡ Err faults.Failed → failed) → Reported status told text before now failed
reported_of written status told bytes text before now failed same is whole part fault =
    subst (λ (xs : List ℕ). Reported status told xs before now failed) same (reported_by written status told bytes before now failed is whole part fault)

-- a report that tells 0 has failed where the status is 6
pub lost_by : (written : Result (Unit {0}) Fault) (status : ℕ) (failed : Type 0) → status ≡ status_after written 0
    → (written ≡ Err faults.Failed → failed) → status ≡ 6 → failed
lost_by (Ok done) status failed is fault e = let told : status ≡ 0 = is in absurd (omega arith)
lost_by (Err faults.Failed) status failed is fault e = fault refl
lost_by (Err faults.OutOfMemory) status failed is fault e = let memory : status ≡ 9 = is in absurd (omega arith)

-- no status comes with it but 0, 6 and 9
pub never_after : (written : Result (Unit {0}) Fault) (status n : ℕ) → status ≡ status_after written 0 → status ≡ n → 0 ≢ n → 6 ≢ n → 9 ≢ n → ⊥
never_after (Ok done) status n is e told lost memory = told (sym is ∙ e)
never_after (Err faults.Failed) status n is e told lost memory = lost (sym is ∙ e)
never_after (Err faults.OutOfMemory) status n is e told lost memory = memory (sym is ∙ e)

ends_later : (text : List ℕ) → 0 < length (ended text)
ends_later [] = omega arith
ends_later (x ∷ text) = omega arith

-- nothing of a line was written
pub nothing_yet : (text : List ℕ) (written : Option (List ℕ)) → WrotePart (ended text) written written
nothing_yet text written = (zero, ends_later text, then_written-none written)
