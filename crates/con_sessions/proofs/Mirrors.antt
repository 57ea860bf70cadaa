-- How a session with a second terminal ends, by its status.
use Rattle.std.proofs.Common.{◌≡◌, ◌⊎◌, inl, inr, refl, sym, subst, ap, ◌∙◌, arith, ℕ, Bool, true, false, List, Option}
use Rattle.std.specs.Prelude.{◌||◌, nat_eq}
use Rattle.std.proofs.lemmas.Bool.{false_from_ne_true}
use Rattle.con_events.specs.declared.end.End.{End}
use Rattle.con_events.specs.declared.end.End.TheVariants as ends
use Rattle.con_laws.specs.Rounds.{is_memory}
use Rattle.con_outside.specs.Outside.{then_written}
use Rattle.con_lines.specs.Ending.{status_of}
use Rattle.con_ending.specs.Ending.{Reported, lost_status}
use Rattle.con_telling.specs.Telling.{ending_after, mirror_ending}
use Rattle.con_sessions.specs.Laws.{apart, end_says, ends_as, is_end, last_status, unless_done}
use Rattle.con_sessions.proofs.Reports.{nine_at}
use Rattle.con_sessions.proofs.SessionLemmas.{memory_end}

-- 12 says that the second terminal failed
pub twelve : (end : End) (lost : Bool) → 12 ≡ last_status end lost → lost ≡ true
twelve end lost e = elim (ends_as end lost) [
  | inl p ↦ p.0
  | inr same ↦ absurd (apart is_end (status_of (ending_after end)) 12 (end_says end) refl (sym (e ∙ ap status_of same)))
]

-- where it did not, the status is that of a session without one
pub plainly_so : (s : ℕ) (end : End) (lost : Bool) → (lost ≡ true → ⊥) → (s ≡ last_status end lost) ⊎ (s ≡ 9) → (s ≡ status_of (ending_after end)) ⊎ (s ≡ 9)
plainly_so s end lost other is = elim (ends_as end lost) [
  | inl p ↦ absurd (other p.0)
  | inr same ↦ subst (λ last. (s ≡ status_of last) ⊎ (s ≡ 9)) same is
]

pub never_six_lost : (end : End) (lost : Bool) → last_status end lost ≡ 6 → ⊥
never_six_lost end lost e = elim (ends_as end lost) [
  | inl p ↦ let bad : 12 ≡ 6 = sym p.1 ∙ e in absurd (omega arith)
  | inr same ↦ apart is_end (status_of (ending_after end)) 6 (end_says end) refl (sym (ap status_of same) ∙ e)
]

pub memory_nine_lost : (end : End) (lost : Bool) → is_memory end ≡ true → last_status end lost ≡ 9
memory_nine_lost end lost e = ap (λ (d : End). status_of (mirror_ending d lost)) (memory_end end e)

-- ---- of the second terminal's stream

abbrev is_shown : ℕ → Bool
is_shown n = nat_eq n 0 || nat_eq n 6

lost_stays : (end : End) → (lost_status (last_status end true) ≡ last_status end true) × (is_shown (last_status end true) ≡ false)
lost_stays ends.Done = (refl, refl)
lost_stays ends.Term = (refl, refl)
lost_stays ends.Link = (refl, refl)
lost_stays ends.TooLong = (refl, refl)
lost_stays (ends.Bad place kind) = (refl, refl)
lost_stays ends.Memory = (refl, refl)

-- 0 and 6 say that it did not fail
whole_with : (s : ℕ) (end : End) (lost : Bool) (text : List ℕ) (before now : Option (List ℕ)) (failed : Type 0) → Reported s (last_status end lost) text before now failed → is_shown s ≡ true → lost ≡ false
whole_with s end false text before now failed r shown = refl
whole_with s end true text before now failed r shown = elim (unless_done s (last_status end true) text before now failed r (lost_stays end).0) [
  | inl e ↦ absurd (apart is_shown s (last_status end true) shown (lost_stays end).1 e)
  | inr e ↦ absurd (apart is_shown s 9 shown refl e)
]

-- with 0 and 6, and with every other status but 9 where it did not fail, all of it was written
pub shown_all : (s : ℕ) (end : End) (lost : Bool) (text : List ℕ) (before now : Option (List ℕ)) (failed second_failed : Type 0) (built : List ℕ) (was written : Option (List ℕ)) → Reported s (last_status end lost) text before now failed
    → (lost ≡ true → second_failed) → (lost ≡ false → is_memory end ≡ false → written ≡ then_written was built) → ¬ (s ≡ 9) → (s ≡ 0) ⊎ ((s ≡ 6) ⊎ ¬ second_failed) → written ≡ then_written was built
shown_all s end lost text before now failed second_failed built was written r why all other which = all (elim which [
  | inl e ↦ whole_with s end lost text before now failed r (ap is_shown e)
  | inr rest ↦ elim rest [
    | inl e ↦ whole_with s end lost text before now failed r (ap is_shown e)
    | inr sure ↦ false_from_ne_true lost (λ e. sure (why e))
  ]
]) (false_from_ne_true (is_memory end) (λ e. other (nine_at s (last_status end lost) text before now failed r (memory_nine_lost end lost e))))
