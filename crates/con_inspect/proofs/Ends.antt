-- How an audit ends, by what was found.
use Rattle.std.proofs.Common.{◌≡◌, ◌≢◌, ◌⊎◌, inl, inr, refl, ap, ◌∙◌, subst, arith, ℕ, List, Option}
use Rattle.std.specs.Prelude.{Result, Ok, Err, IfErr, OnOk, OnErr}
use Rattle.con_outside.specs.Outside.{then_written, WrotePart}
use Rattle.con_outside.specs.declared.traits.Fault.{Fault}
use Rattle.con_outside.specs.declared.traits.Fault.TheVariants as faults
use Rattle.con_trace.specs.Audit.{Found, a_run, found_text}
use Rattle.con_lines.specs.Words.Ending.{ending_of}
use Rattle.con_lines.specs.Line.{ended}
use Rattle.con_lines.specs.declared.ending.EndLine.{EndLine}
use Rattle.con_ending.specs.Ending.{Reported, Tells, lost_status}
use Rattle.con_ending.specs.Files.{missing, unread, too_long, no_json, no_session}
use Rattle.con_ending.specs.Words.Files.{Misread}
use Rattle.con_ending.specs.Laws.{reported_by, status_after}
use Rattle.con_ending.specs.declared.file.Unrun.{Unrun}
use Rattle.con_ending.specs.declared.file.Unrun.TheVariants as unrun
use Rattle.con_audit.specs.Words.Headline.{YesIsARun}
use Rattle.con_audit.specs.declared.verdict.Verdict.TheVariants as verdicts
use Rattle.con_inspect.specs.Four.{Four, AreFiles}
use Rattle.con_inspect.specs.Words.Four.{Barred}
use Rattle.con_inspect.specs.Finding.{given, status_found, told}
use Rattle.con_inspect.specs.Auditing.{Judged, AreARun, Audits, IsComplete, IsJudged, barred, found, line_for, status_for}
use Rattle.con_inspect.specs.Words.Auditing.{OneJudgement}
use Rattle.con_inspect.specs.declared.finding.Finding.{Finding}
use Rattle.con_inspect.specs.declared.finding.Finding.TheVariants as findings
use Rattle.con_inspect.proofs.Judgements.{surely}

-- what was found is told, whole or in part
abbrev IsTold : ℕ → Judged → Option (List ℕ) → Option (List ℕ) → Type 0 → Type 0
IsTold status judged before now failed = Reported status (status_for judged) (line_for judged) before now failed

-- the line of what was found, as it was written
pub written_so : (written : Result (Unit {0}) Fault) (status n : ℕ) (f : Finding) (line : Found) (before now : Option (List ℕ)) (failed : Type 0)
    → line ≡ told f → n ≡ status_found f → status ≡ status_after written n → OnOk written (now ≡ then_written before (ended (found_text line)))
    → OnErr written (WrotePart (ended (found_text line)) before now) → (written ≡ Err faults.Failed → failed) → IsTold status (found f) before now failed
written_so written status n f line before now failed says is goes whole part fault =
    let after = goes ∙ ap (status_after written) is in
    let all = reported_by written status (status_found f) (ended (found_text line)) before now failed after whole part fault in
    subst (λ (l : Found). Reported status (status_found f) (ended (found_text l)) before now failed) says all

-- ---- a yes

abbrev a_yes : Judged
a_yes = found (findings.Audited verdicts.Yes)

abbrev IsYes : ℕ → Type 0
IsYes status = (status ≡ 0) ⊎ (status ≡ 6)

nine : (n : ℕ) → n ≡ 9 → IsYes n → ⊥
nine n e y = elim y [ inl z ↦ omega arith | inr z ↦ omega arith ]

-- any other status than 0 and 6 is none, and stays where the report failed
other : (n k : ℕ) → k ≢ 0 → k ≢ 6 → (n ≡ k) ⊎ (n ≡ k) → IsYes n → ⊥
other n k not_done not_lost e y = elim e [
  | inl d ↦ elim y [ inl z ↦ omega arith | inr z ↦ omega arith ]
  | inr d ↦ elim y [ inl z ↦ omega arith | inr z ↦ omega arith ]
]

yes_of : (judged : Judged) (n : ℕ) → (n ≡ status_for judged) ⊎ (n ≡ lost_status (status_for judged)) → IsYes n → judged ≡ a_yes
yes_of (barred missing) n e y = absurd (other n 7 (omega arith) (omega arith) e y)
yes_of (barred unread) n e y = absurd (other n 7 (omega arith) (omega arith) e y)
yes_of (barred too_long) n e y = absurd (other n 3 (omega arith) (omega arith) e y)
yes_of (barred (no_json bytes)) n e y = absurd (other n 3 (omega arith) (omega arith) e y)
yes_of (barred (no_session bytes w)) n e y = absurd (other n 3 (omega arith) (omega arith) e y)
yes_of (found (findings.WrongLine k)) n e y = absurd (other n 13 (omega arith) (omega arith) e y)
yes_of (found (findings.OtherStatus k)) n e y = absurd (other n 13 (omega arith) (omega arith) e y)
yes_of (found (findings.Audited (verdicts.No k w))) n e y = absurd (other n 13 (omega arith) (omega arith) e y)
yes_of (found (findings.Audited verdicts.Yes)) n e y = refl

module _ (status : ℕ) (judged : Judged) (before now : Option (List ℕ)) (failed : Type 0) (told' : IsTold status judged before now failed) where
  is_yes : IsYes status → judged ≡ a_yes
  is_yes y = elim told' [
    | inl t ↦ yes_of judged status (inl t.0) y
    | inr t ↦ elim t [ inl u ↦ yes_of judged status (inr u.0) y | inr u ↦ absurd (nine status u.0 y) ]
  ]

  yes_line : status ≡ 0 → now ≡ then_written before (ended (found_text a_run))
  yes_line z = elim told' [
    | inl t ↦ subst (λ (j : Judged). now ≡ then_written before (line_for j)) (yes_of judged status (inl t.0) (inl z)) t.1
    | inr t ↦ elim t [
      | inl u ↦
          let yes_is = yes_of judged status (inr u.0) (inl z) in
          let six : status ≡ 6 = subst (λ (j : Judged). status ≡ lost_status (status_for j)) yes_is u.0 in absurd (omega arith)
      | inr u ↦ absurd (nine status u.0 (inl z))
    ]
  ]

  failed_for : status ≡ 6 → failed
  failed_for six = elim told' [
    | inl t ↦
        let yes_is = yes_of judged status (inl t.0) (inr six) in
        let done : status ≡ 0 = subst (λ (j : Judged). status ≡ status_for j) yes_is t.0 in absurd (omega arith)
    | inr t ↦ elim t [ inl u ↦ u.2 | inr u ↦ absurd (nine status u.0 (inr six)) ]
  ]

a_yes_is_a_run : YesIsARun → (files : Option (List ℕ → Option (List ℕ))) (names : Four) (failed : Type 0) → IsJudged files names failed a_yes
    → AreARun files names
a_yes_is_a_run law files names failed j = (j.0, j.1, j.2, j.3, j.4.0, j.4.1, j.4.2, law (given j.2 j.0 j.4.0) j.4.3)

-- what was found, and told
pub audited : YesIsARun → (status : ℕ) (files : Option (List ℕ
    → Option (List ℕ))) (names : Four) (files_failed : Type 0) (before now : Option (List ℕ)) (failed : Type 0) (judged : Judged)
    → IsJudged files names files_failed judged → IsTold status judged before now failed → Audits status files names files_failed before now failed
audited law status files names files_failed before now failed judged is told' = record {
  told = inr (judged, is, told');
  line = yes_line status judged before now failed told';
  run = λ y. a_yes_is_a_run law files names files_failed (subst (IsJudged files names files_failed) (is_yes status judged before now failed told' y) is);
}

-- there was nothing to audit
pub told_alone : YesIsARun → (status : ℕ) (files : Option (List ℕ
    → Option (List ℕ))) (names : Four) (files_failed : Type 0) (before now : Option (List ℕ)) (failed : Type 0) (last : EndLine)
    → Barred files names files_failed (unrun.Told last) → Tells status (ending_of last) before now failed
    → Audits status files names files_failed before now failed
told_alone law status files names files_failed before now failed last why tells =
    let so = subst (λ e. Tells status e before now failed) why.2 tells in
    audited law status files names files_failed before now failed (barred why.0) why.1 so

-- with 6 the report failed
pub report_failed : (status : ℕ) (files : Option (List ℕ
    → Option (List ℕ))) (names : Four) (files_failed : Type 0) (before now : Option (List ℕ)) (failed : Type 0)
    → Audits status files names files_failed before now failed → status ≡ 6 → failed
report_failed status files names files_failed before now failed a six = elim a.told [
  | inl t ↦ absurd (nine status t.0 (inr six))
  | inr t ↦ failed_for status t.0 before now failed t.2 six
]

-- there was no memory
pub no_memory : (files : Option (List ℕ → Option (List ℕ))) (names : Four) (files_failed : Type 0) (before : Option (List ℕ)) (failed : Type 0)
    → Audits 9 files names files_failed before before failed
no_memory files names files_failed before failed = record {
  told = inl (refl, refl);
  line = λ z. absurd (nine 9 refl (inl z));
  run = λ y. absurd (nine 9 refl y);
}

-- why bytes of a session's file are none, beside the other files
misread : (files : Option (List ℕ → Option (List ℕ))) (names four : Four) (failed : Type 0) (e : Unrun) → AreFiles files names four
    → Misread four.session e → Barred files names failed e
misread files names four failed (unrun.Told line) are why = elim why [
  | inl m ↦ (no_json four.session, ((four, are, refl), m.0), m.1)
  | inr m ↦ (no_session four.session m.0, ((four, are, refl), m.1), m.2)
]
misread files names four failed unrun.OutOfMemory are why = tt

pub misread_by : {A : Type 0} (files : Option (List ℕ → Option (List ℕ))) (names four : Four) (failed : Type 0) (r : Result A Unrun)
    → AreFiles files names four → IfErr r (Misread four.session) → IfErr r (Barred files names failed)
misread_by files names four failed (Ok finding) are why = tt
misread_by files names four failed (Err e) are why = misread files names four failed e are why

-- ---- what is found is what is told

settled_by : (status told : ℕ) (text : List ℕ) (before now : Option (List ℕ)) (failed : Type 0) → ¬ failed → Reported status told text before now failed
    → (status ≡ told) ⊎ (status ≡ 9)
settled_by status told text before now failed fine goes = elim goes [
  | inl t ↦ inl t.0
  | inr t ↦ elim t [ inl u ↦ absurd (fine u.2) | inr u ↦ inr u.0 ]
]

pub complete : OneJudgement → (status : ℕ) (files : Option (List ℕ
    → Option (List ℕ))) (names : Four) (files_failed : Type 0) (before now : Option (List ℕ)) (failed : Type 0)
    → Audits status files names files_failed before now failed → IsComplete status files names files_failed failed
complete law status files names files_failed before now failed a find is fine whole judged j = elim a.told [
  | inl t ↦ inr t.0
  | inr t ↦ elim (settled_by status (status_for t.0) (line_for t.0) before now failed whole t.2) [
    | inl s ↦
        let told' = surely find names files_failed t.0 fine (subst (λ fs. IsJudged fs names files_failed t.0) is t.1) in
        let same = law find names t.0 judged told' (surely find names files_failed judged fine (subst (λ fs. IsJudged fs names files_failed judged) is j)) in
        inl (s ∙ same)
    | inr s ↦ inr s
  ]
]
