-- Statuses of a session's end, and a call that has no session.
use Rattle.std.proofs.Common.{◌≡◌, inl, inr, refl, subst, ap, arith, ℕ, true, List, Option}
use Rattle.con_events.specs.Session.{Clients}
use Rattle.con_events.specs.declared.end.End.{End}
use Rattle.con_events.specs.declared.end.End.TheVariants as ends
use Rattle.con_laws.specs.Rounds.{is_memory}
use Rattle.con_lines.specs.declared.ending.EndLine.{EndLine}
use Rattle.con_lines.specs.Ending.{status_of}
use Rattle.con_lines.specs.Words.Ending.{ending_of}
use Rattle.con_ending.specs.Ending.{Tells}
use Rattle.con_ending.specs.Files.{OfFile}
use Rattle.con_ending.specs.Words.Files.{Explains}
use Rattle.con_ending.specs.declared.file.Unrun.TheVariants as unrun
use Rattle.con_telling.specs.Telling.{ending_after}
use Rattle.con_sessions.specs.Laws.{apart, end_says, is_end}

pub never_six : (end : End) → status_of (ending_after end) ≡ 6 → ⊥
never_six end e = apart is_end (status_of (ending_after end)) 6 (end_says end) refl e

pub four : (end : End) → 4 ≡ status_of (ending_after end) → end ≡ ends.Link
four ends.Done e = let bad : 4 ≡ 0 = e in absurd (omega arith)
four ends.Term e = let bad : 4 ≡ 5 = e in absurd (omega arith)
four ends.Link e = refl
four ends.TooLong e = let bad : 4 ≡ 10 = e in absurd (omega arith)
four (ends.Bad place kind) e = let bad : 4 ≡ 8 = e in absurd (omega arith)
four ends.Memory e = let bad : 4 ≡ 9 = e in absurd (omega arith)

pub five : (end : End) → 5 ≡ status_of (ending_after end) → end ≡ ends.Term
five ends.Done e = let bad : 5 ≡ 0 = e in absurd (omega arith)
five ends.Term e = refl
five ends.Link e = let bad : 5 ≡ 4 = e in absurd (omega arith)
five ends.TooLong e = let bad : 5 ≡ 10 = e in absurd (omega arith)
five (ends.Bad place kind) e = let bad : 5 ≡ 8 = e in absurd (omega arith)
five ends.Memory e = let bad : 5 ≡ 9 = e in absurd (omega arith)

pub memory_end : (end : End) → is_memory end ≡ true → end ≡ ends.Memory
memory_end ends.Done e = absurd (cc)
memory_end ends.Term e = absurd (cc)
memory_end ends.Link e = absurd (cc)
memory_end ends.TooLong e = absurd (cc)
memory_end (ends.Bad place kind) e = absurd (cc)
memory_end ends.Memory e = refl

pub memory_nine : (end : End) → is_memory end ≡ true → status_of (ending_after end) ≡ 9
memory_nine end e = ap (λ (d : End). status_of (ending_after d)) (memory_end end e)

-- ---- no session

-- a last line alone
pub told_alone : (Came : Clients → Type 0) (Stays : Type 0) (s : ℕ) (files : Option (List ℕ → Option (List ℕ))) (name : List ℕ) (files_failed : Type 0) (before now : Option (List ℕ)) (failed : Type 0) (last : EndLine)
    → Stays → Explains files name files_failed (unrun.Told last) → Tells s (ending_of last) before now failed → OfFile Came Stays s files name files_failed before now failed
told_alone Came Stays s files name files_failed before now failed last stays why tells = inl (stays, inr (why.0, why.1, subst (λ ending. Tells s ending before now failed) why.2 tells))
