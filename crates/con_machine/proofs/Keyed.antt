-- A key that is stored as the units of its sequence.
use Rattle.std.proofs.Common.{◌≡◌, ℕ, ◌-◌, Bool, true, false, List, [], ◌∷◌, length, map, replicate, take, refl, ap, ◌∙◌}
use Rattle.std.specs.Prelude.{if◌then◌else◌}
use Rattle.std.proofs.Math.Seq.{take-append_seam}
use Rattle.con_records.specs.declared.record.Key.{Key}
use Rattle.con_records.specs.declared.record.Record.{Record}
use Rattle.con_records.specs.declared.record.Record.TheVariants as kinds
use Rattle.con_vtin.specs.Sequences.{key_units}
use Rattle.con_vtin.specs.Words.Sequences.{padded}
use Rattle.con_vtin.specs.declared.sequence.Sequence.{Sequence}
use Rattle.con_machine.specs.Outcome.{has_bit}
use Rattle.con_machine.specs.ScreenCalls.{reported}
use Rattle.con_machine.specs.State.{State}
use Rattle.con_machine.specs.Terminal.{records_of}
use Rattle.con_machine.specs.Words.Terminal.{released_key}

chosen : (b : Bool) (xs ys : List Record) → b ≡ true → xs ≡ (if b then xs else ys)
chosen true xs ys e = refl
chosen false xs ys e = absurd (cc)

pub sequence_records : (s : State) (k : Key) (q : Sequence) → has_bit s.mode 0x200 ≡ true → q ≡ padded (key_units k s.cursor_keys)
    → map reported (take q.count q.units) ≡ records_of s k
sequence_records s k q on is =
    let us : List ℕ = key_units k s.cursor_keys in
    ap (λ (x : Sequence). map reported (take x.count x.units)) is
    ∙ ap (map reported) (take-append_seam us (replicate (8 - length us) 0))
    ∙ chosen (has_bit s.mode 0x200) (map reported us) (kinds.Key k ∷ kinds.Key (released_key k) ∷ []) on
