-- Told files are found to be one thing.
use Rattle.std.proofs.Common.{◌≡◌, inl, inr, refl, sym, ap, ◌∙◌, subst, arith, ℕ, ◌≤◌, List, [], ◌∷◌, length, Option, Some, None}
use Rattle.std.specs.Prelude.{Ok, Err, Result, replicate}
use Rattle.con_events.specs.Session.{Clients}
use Rattle.con_link.specs.Only.{OneAnswer}
use Rattle.con_outside.specs.Named.{IsTooLong}
use Rattle.con_document.specs.Document.{IsDocument}
use Rattle.con_document.specs.StepLaws.{no_document, one_document}
use Rattle.con_lines.specs.Ending.{status_of}
use Rattle.con_trace.specs.Report.{History, IsReport, IsWrongAt, history_of}
use Rattle.con_trace.specs.Words.Report.{NoneIsWrong, ReportTells}
use Rattle.con_trace.specs.declared.trace.Trace.{Trace}
use Rattle.con_ending.specs.Files.{IsFile, Reason, missing, unread, too_long, no_json, no_session, ending_for}
use Rattle.con_audit.specs.Audit.{Given, IsAudited}
use Rattle.con_audit.specs.declared.verdict.Verdict.{Verdict}
use Rattle.con_audit.specs.declared.verdict.Verdict.TheVariants as verdicts
use Rattle.con_inspect.specs.Four.{Four, four_of, listed, AreFiles, AreThere, LacksFirst, HasLong, Bars, IsSessions}
use Rattle.con_inspect.specs.Finding.{Finds, given, kinds, status_found}
use Rattle.con_inspect.specs.Auditing.{Judged, IsJudged, barred, found, status_for}
use Rattle.con_inspect.specs.Words.Auditing.{OneJudgement}
use Rattle.con_inspect.specs.declared.finding.Finding.{Finding}
use Rattle.con_inspect.specs.declared.finding.Finding.TheVariants as findings
use Rattle.con_inspect.proofs.Fronts.{yes_or_no}

-- ---- one report

abbrev IsOne : Trace → Trace → Type 0
IsOne t u = (history_of t ≡ history_of u) × (t.status ≡ u.status)

one_trace : ReportTells → (text : List ℕ) (t u : Trace) → IsReport text t → IsReport text u → IsOne t u
one_trace law text t u r s =
    let e = law (history_of t) (history_of u) r.0 s.0 r.3 s.3 r.1 s.1 (sym r.4 ∙ s.4) in
    (e.0, sym r.2 ∙ (ap status_of e.1 ∙ s.2))

not_wrong : NoneIsWrong → (text : List ℕ) (t : Trace) (n : ℕ) → IsReport text t → IsWrongAt n text → ⊥
not_wrong law text t n r wrong = law (history_of t) r.0 n r.3 r.1 (subst (IsWrongAt n) r.4 wrong)

-- ---- one verdict

module _ (audits : OneAnswer) (tells : ReportTells) (none : NoneIsWrong) where
  one_status : (g : Given) (v w : Verdict) → length g.link ≤ 16777216 → IsAudited g v → IsAudited g w
      → status_found (findings.Audited v) ≡ status_found (findings.Audited w)
  one_status g verdicts.Yes verdicts.Yes few a b = refl
  one_status g verdicts.Yes (verdicts.No k w) few a b = absurd (yes_or_no audits g k w few a b)
  one_status g (verdicts.No k w) verdicts.Yes few a b = absurd (yes_or_no audits g k w few b a)
  one_status g (verdicts.No j v) (verdicts.No k w) few a b = refl

  -- what is given of a report is its history's
  abbrev audited_by : Clients → Four → Verdict → History → Type 0
  audited_by session four v h = IsAudited (record {
    session = session;
    racks = replicate (length session.scripts) kinds;
    link = four.link;
    stream = four.stream;
    entries = h.entries;
    replies = h.replies;
    ends = h.ends;
  }) v

  one_found : (session : Clients) (four : Four) (f e : Finding) → length four.link ≤ 16777216 → Finds session four f → Finds session four e
      → status_found f ≡ status_found e
  one_found session four (findings.WrongLine n) (findings.WrongLine m) few a b = refl
  one_found session four (findings.WrongLine n) (findings.OtherStatus m) few a b = refl
  one_found session four (findings.WrongLine n) (findings.Audited w) few a b = absurd (not_wrong none four.report b.0 n b.1 a)
  one_found session four (findings.OtherStatus n) (findings.WrongLine m) few a b = refl
  one_found session four (findings.OtherStatus n) (findings.OtherStatus m) few a b = refl
  one_found session four (findings.OtherStatus n) (findings.Audited w) few a b = absurd (a.2 ((one_trace tells four.report a.0 b.0 a.1 b.1).1 ∙ b.2))
  one_found session four (findings.Audited v) (findings.WrongLine m) few a b = absurd (not_wrong none four.report a.0 m a.1 b)
  one_found session four (findings.Audited v) (findings.OtherStatus m) few a b = absurd (b.2 ((one_trace tells four.report b.0 a.0 b.1 a.1).1 ∙ a.2))
  one_found session four (findings.Audited v) (findings.Audited w) few a b =
      one_status (given session four a.0) v w few a.3 (subst (audited_by session four w) (one_trace tells four.report b.0 a.0 b.1 a.1).0 b.3)

  -- ---- one set of files

  module _ (find : List ℕ → Option (List ℕ)) (names : Four) (failed : Type 0) (fine : ¬ failed) where
    abbrev files : Option (List ℕ → Option (List ℕ))
    files = Some find

    same_text : (name x y : List ℕ) → IsFile files name x → IsFile files name y → x ≡ y
    same_text name x y p q = let e : Some x ≡ Some y = sym p.1 ∙ q.1 in cc

    same_four : (a b : Four) → AreFiles files names a → AreFiles files names b → a ≡ b
    same_four a b p q =
        let e = same_text names.session a.session b.session p.0 q.0 in
        let f = same_text names.link a.link b.link p.1 q.1 in
        let g = same_text names.stream a.stream b.stream p.2 q.2 in
        let h = same_text names.report a.report b.report p.3 q.3 in
        ap (λ x. four_of x a.link a.stream a.report) e ∙ (ap (λ x. four_of b.session x a.stream a.report) f
        ∙ (ap (λ x. four_of b.session b.link x a.report) g ∙ ap (λ x. four_of b.session b.link b.stream x) h))

    same_session : (text : List ℕ) (s r : Clients) → IsDocument text (Ok s) → IsDocument text (Ok r) → s ≡ r
    same_session text s r p q = let e : ◌≡◌ {A = Result Clients (List ℕ)} (Ok s) (Ok r) = one_document text (Ok s) (Ok r) p q in cc

    not_failed : (ns : List (List ℕ)) → LacksFirst files failed unread ns → ⊥
    not_failed [] l = l
    not_failed (n ∷ ns) l = elim l [ inl f ↦ fine f | inr more ↦ not_failed ns more.1 ]

    not_there : (ns : List (List ℕ)) → LacksFirst files failed missing ns → AreThere files ns → ⊥
    not_there [] l there = l
    not_there (n ∷ ns) l there = elim l [
      | inl e ↦ (let bad : None ≡ Some there.0.0 = sym e ∙ there.0.1 in absurd (cc))
      | inr more ↦ not_there ns more.1 there.1
    ]

    all_there : (four : Four) → AreFiles files names four → AreThere files (listed names)
    all_there four are = ((four.session, are.0.1), ((four.link, are.1.1), ((four.stream, are.2.1), ((four.report, are.3.1), tt))))

    not_long : (name bytes : List ℕ) → IsFile files name bytes → IsTooLong (find name) → ⊥
    not_long name bytes is long = let many = subst IsTooLong is.1 long in let few = is.0 in omega arith

    none_long : (four : Four) → AreFiles files names four → HasLong files (listed names) → ⊥
    none_long four are long = elim long [
      | inl l ↦ not_long names.session four.session are.0 l
      | inr l ↦ elim l [
        | inl m ↦ not_long names.link four.link are.1 m
        | inr m ↦ elim m [
          | inl n ↦ not_long names.stream four.stream are.2 n
          | inr n ↦ elim n [ inl o ↦ not_long names.report four.report are.3 o | inr o ↦ o ]
        ]
      ]
    ]

    -- ---- which files there are

    data Kind : Judged → Type 0 where
      lacking : LacksFirst files failed missing (listed names) → Kind (barred missing)
      unfit : (why : Reason) → AreThere files (listed names) → status_of (ending_for why) ≡ 3 → ((f : Finding) → IsJudged files names failed (found f)
          → ⊥) → Kind (barred why)
      fit : (f : Finding) → IsJudged files names failed (found f) → Kind (found f)

    -- the text of a session's file is one
    other_text : (four : Four) (bytes : List ℕ) → AreFiles files names four → IsSessions files names bytes → four.session ≡ bytes
    other_text four bytes are of = same_text names.session four.session of.0.session are.0 of.1.0 ∙ of.2

    no_clients : (bytes : List ℕ) (s : Clients) (w : List ℕ) → IsDocument bytes (Err w) → IsDocument bytes (Ok s) → ⊥
    no_clients bytes s w e d = let bad : ◌≡◌ {A = Result Clients (List ℕ)} (Err w) (Ok s) = one_document bytes (Err w) (Ok s) e d in absurd (cc)

    barred_kind : (why : Reason) → Bars files names failed why → Kind (barred why)
    barred_kind missing bars = lacking bars
    barred_kind unread bars = absurd (not_failed (listed names) bars)
    barred_kind too_long bars = unfit too_long bars.0 refl (λ f j. none_long j.0 j.1 bars.1)
    barred_kind (no_json bytes) bars = unfit (no_json bytes) (all_there bars.0.0 bars.0.1) refl
        (λ f j. no_document bytes (Ok j.2) bars.1 (subst (λ (text : List ℕ). IsDocument text (Ok j.2)) (other_text j.0 bytes j.1 bars.0) j.3))
    barred_kind (no_session bytes w) bars = unfit (no_session bytes w) (all_there bars.0.0 bars.0.1) refl
        (λ f j. no_clients bytes j.2 w bars.1 (subst (λ (text : List ℕ). IsDocument text (Ok j.2)) (other_text j.0 bytes j.1 bars.0) j.3))

    kind_of : (judged : Judged) → IsJudged files names failed judged → Kind judged
    kind_of (barred why) j = barred_kind why j
    kind_of (found f) j = fit f j

    same_found : (f e : Finding) → IsJudged files names failed (found f) → IsJudged files names failed (found e) → status_found f ≡ status_found e
    same_found f e j k =
        let four = same_four k.0 j.0 k.1 j.1 in
        let read = subst (λ (x : Four). IsDocument x.session (Ok k.2)) four k.3 in
        let session = same_session j.0.session k.2 j.2 read j.3 in
        let finds = subst (λ (x : Four). Finds k.2 x e) four k.4 in
        one_found j.2 j.0 f e j.1.1.0 j.4 (subst (λ (s : Clients). Finds s j.0 e) session finds)

    one_kind : (one other : Judged) → Kind one → Kind other → status_for one ≡ status_for other
    one_kind one other (lacking l) (lacking m) = refl
    one_kind one other (lacking l) (unfit why there e none_found) = absurd (not_there (listed names) l there)
    one_kind one other (lacking l) (fit f j) = absurd (not_there (listed names) l (all_there j.0 j.1))
    one_kind one other (unfit why there e none_found) (lacking l) = absurd (not_there (listed names) l there)
    one_kind one other (unfit why there e none_found) (unfit reason others d no_finding) = e ∙ sym d
    one_kind one other (unfit why there e none_found) (fit f j) = absurd (none_found f j)
    one_kind one other (fit f j) (lacking l) = absurd (not_there (listed names) l (all_there j.0 j.1))
    one_kind one other (fit f j) (unfit why there e none_found) = absurd (none_found f j)
    one_kind one other (fit f j) (fit e k) = same_found f e j k

  pub judged_once : OneJudgement
  judged_once find names one other j k = one_kind find names ⊥ (λ f. f) one other (kind_of find names ⊥ (λ f. f) one j) (kind_of find names ⊥ (λ f. f) other k)

-- ---- files that did not fail

never_unread : (find : List ℕ → Option (List ℕ)) (failed : Type 0) → ¬ failed → (ns : List (List ℕ)) → LacksFirst (Some find) failed unread ns → ⊥
never_unread find failed fine [] l = l
never_unread find failed fine (n ∷ ns) l = elim l [ inl f ↦ fine f | inr more ↦ never_unread find failed fine ns more.1 ]

pub surely : (find : List ℕ → Option (List ℕ)) (names : Four) (failed : Type 0) (judged : Judged) → ¬ failed → IsJudged (Some find) names failed judged
    → IsJudged (Some find) names ⊥ judged
surely find names failed (barred missing) fine j = j
surely find names failed (barred unread) fine j = absurd (never_unread find failed fine (listed names) j)
surely find names failed (barred too_long) fine j = j
surely find names failed (barred (no_json bytes)) fine j = j
surely find names failed (barred (no_session bytes w)) fine j = j
surely find names failed (found f) fine j = j
