-- What a report that was written says of its status, and of a session's text.
use Rattle.std.proofs.Common.{◌≡◌, ◌⊎◌, inl, inr, refl, sym, subst, ap, ◌∙◌, arith, ℕ, Bool, true, false, List, length, take, Option}
use Rattle.std.specs.Prelude.{Result, Err, OnOk, OnErr}
use Rattle.std.proofs.Math.Seq.{take-length}
use Rattle.std.proofs.lemmas.Bool.{cases_lt}
use Rattle.con_events.specs.declared.entry.Entry.{Entry}
use Rattle.con_events.specs.declared.reply.Reply.{Reply}
use Rattle.con_outside.specs.Outside.{then_written, WroteFront, WrotePart}
use Rattle.con_outside.specs.declared.traits.Fault.{Fault}
use Rattle.con_outside.specs.declared.traits.Fault.TheVariants as faults
use Rattle.con_lines.specs.Ending.{Ending, status_of}
use Rattle.con_ending.specs.Ending.{Reported, lost_status}
use Rattle.con_ending.specs.Laws.{reported_by, status_after}
use Rattle.con_forms.specs.Told.{is_told}
use Rattle.con_telling.specs.Telling.{ended_report, told_report}
use Rattle.con_telling.specs.Laws.{whole_is_told}

-- ---- of its status

module _ (s told : ℕ) (text : List ℕ) (before now : Option (List ℕ)) (failed : Type 0) (r : Reported s told text before now failed) where
  -- 6 says that the report failed, where no last line tells it
  pub failed_at : (told ≡ 6 → ⊥) → s ≡ 6 → failed
  failed_at other e = elim r [
    | inl w ↦ absurd (other (sym w.0 ∙ e))
    | inr rest ↦ elim rest [
      | inl w ↦ w.2
      | inr w ↦ let bad : 6 ≡ 9 = sym e ∙ w.0 in absurd (omega arith)
    ]
  ]

  -- a report that did not fail has the status that its last line tells, or 9
  pub unless_failed : ¬ failed → (s ≡ told) ⊎ (s ≡ 9)
  unless_failed sure = elim r [
    | inl w ↦ inl w.0
    | inr rest ↦ elim rest [ inl w ↦ absurd (sure w.2) | inr w ↦ inr w.0 ]
  ]

  pub nine_at : told ≡ 9 → s ≡ 9
  nine_at memory = elim r [
    | inl w ↦ w.0 ∙ memory
    | inr rest ↦ elim rest [ inl w ↦ w.0 ∙ ap lost_status memory | inr w ↦ w.0 ]
  ]

-- ---- of a session's text

-- the last line is this one
pub reported_with : (written : Result (Unit {0}) Fault) (s : ℕ) (h : List Entry) (rs : List Reply) (es : List ℕ) (last ending : Ending) (before now : Option (List ℕ)) (failed : Type 0) → last ≡ ending
    → s ≡ status_after written (status_of last) → OnOk written (now ≡ then_written before (ended_report h rs es last)) → OnErr written (WrotePart (ended_report h rs es last) before now)
    → (written ≡ Err faults.Failed → failed) → Reported s (status_of ending) (ended_report h rs es ending) before now failed
reported_with written s h rs es last ending before now failed is status whole part fault =
    subst (λ l. Reported s (status_of l) (ended_report h rs es l) before now failed) is (reported_by written s (status_of last) (ended_report h rs es last) before now failed status whole part fault)

pub front_with : (h : List Entry) (rs : List Reply) (es : List ℕ) (last ending : Ending) (before now : Option (List ℕ)) → last ≡ ending → WroteFront (told_report h rs es last) before now
    → WroteFront (told_report h rs es ending) before now
front_with h rs es last ending before now is w = subst (λ l. WroteFront (told_report h rs es l) before now) is w

-- a front is all or a part
all_or_part : (text : List ℕ) (before now : Option (List ℕ)) → WroteFront text before now → (now ≡ then_written before text) ⊎ WrotePart text before now
all_or_part text before now w = elim (cases_lt w.0 (length text)) [
  | inl few ↦ inr (w.0, few, w.2)
  | inr many ↦ let all : w.0 ≡ length text = omega (arith, w.1, many) in inl (w.2 ∙ ap (then_written before) (ap (λ n. take n text) all ∙ take-length text))
]

-- where each Paint has its end, but for want of memory, the report as far as it is told went as the whole one did
pub as_told : (b : Bool) (s told : ℕ) (h : List Entry) (rs : List Reply) (es : List ℕ) (last : Ending) (before now : Option (List ℕ)) (failed : Type 0) → (b ≡ false → is_told h rs es ≡ true) → (b ≡ true → told ≡ 9)
    → Reported s told (ended_report h rs es last) before now failed → WroteFront (told_report h rs es last) before now → Reported s told (told_report h rs es last) before now failed
as_told false s told h rs es last before now failed each memory r front = subst (λ text. Reported s told text before now failed) (sym (whole_is_told h rs es last (each refl))) r
as_told true s told h rs es last before now failed each memory r front =
    let nine : s ≡ 9 = nine_at s told (ended_report h rs es last) before now failed r (memory refl) in
    elim (all_or_part (told_report h rs es last) before now front) [
      | inl all ↦ inl (nine ∙ sym (memory refl), all)
      | inr part ↦ inr (inr (nine, part))
    ]
