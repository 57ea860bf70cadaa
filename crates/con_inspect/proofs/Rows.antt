-- What is found of files, and how it is told, in small.
use Rattle.std.proofs.Common.{◌≡◌, ◌⊎◌, inl, inr, refl, ℕ, arith, List, [], ◌∷◌, Option, Some, None}
use Rattle.std.specs.Prelude.{codes}
use Rattle.con_trace.specs.Audit.{a_run, no_run}
use Rattle.con_ending.specs.Ending.{lost_status}
use Rattle.con_ending.specs.Files.{missing, too_long, no_json}
use Rattle.con_audit.specs.declared.verdict.What.TheVariants as what
use Rattle.con_audit.specs.declared.verdict.Verdict.TheVariants as verdicts
use Rattle.con_inspect.specs.Four.{AreFiles, Bars, four_of}
use Rattle.con_inspect.specs.Finding.{told}
use Rattle.con_inspect.specs.Auditing.{AreARun, IsComplete, barred, found, status_for}
use Rattle.con_inspect.specs.declared.finding.Finding.TheVariants as findings

-- a file for each name but the empty one, which has the name as its bytes
abbrev find : List ℕ → Option (List ℕ)
find [] = None
find (x ∷ xs) = Some (x ∷ xs)

-- four files are there
all_there : AreFiles (Some find) (four_of (97 ∷ []) (98 ∷ []) (99 ∷ []) (100 ∷ [])) (four_of (97 ∷ []) (98 ∷ []) (99 ∷ []) (100 ∷ []))
all_there = ((omega arith, refl), (omega arith, refl), (omega arith, refl), (omega arith, refl))

-- the link is missing, and the report too
no_link : Bars (Some find) (four_of (97 ∷ []) [] (99 ∷ []) []) ⊥ missing
no_link = inr ((97 ∷ [], refl), inl refl)

-- the session is missing
no_session_there : Bars (Some find) (four_of [] (98 ∷ []) (99 ∷ []) (100 ∷ [])) ⊥ missing
no_session_there = inl refl

-- files of which one is missing are no run
no_run_without_link : AreARun (Some find) (four_of (97 ∷ []) [] (99 ∷ []) (100 ∷ [])) → ⊥
no_run_without_link run = let none : None ≡ Some run.0.link = run.1.1.1 in cc

-- and an audit of them ends with 7, where there is memory
missing_is_answered : (status : ℕ) → IsComplete status (Some find) (four_of (97 ∷ []) [] (99 ∷ []) []) ⊥ ⊥ → (status ≡ 7) ⊎ (status ≡ 9)
missing_is_answered status complete = complete find refl (λ e. e) (λ e. e) (barred missing) no_link

-- ---- statuses

missing_status : status_for (barred missing) ≡ 7
missing_status = refl

long_status : status_for (barred too_long) ≡ 3
long_status = refl

json_status : status_for (barred (no_json [])) ≡ 3
json_status = refl

line_status : status_for (found (findings.WrongLine 5)) ≡ 13
line_status = refl

no_status : status_for (found (findings.Audited (verdicts.No 2 what.Shows))) ≡ 13
no_status = refl

yes_status : status_for (found (findings.Audited verdicts.Yes)) ≡ 0
yes_status = refl

-- where the line could not be written
yes_lost : lost_status (status_for (found (findings.Audited verdicts.Yes))) ≡ 6
yes_lost = refl

no_lost : lost_status (status_for (found (findings.Audited (verdicts.No 2 what.Shows)))) ≡ 13
no_lost = refl

-- ---- lines

yes_told : told (findings.Audited verdicts.Yes) ≡ a_run
yes_told = refl

shows_told : told (findings.Audited (verdicts.No 2 what.Shows)) ≡ no_run 2 (codes "shows")
shows_told = refl

line_told : told (findings.WrongLine 5) ≡ no_run 5 (codes "line")
line_told = refl

status_told : told (findings.OtherStatus 7) ≡ no_run 7 (codes "whole")
status_told = refl
