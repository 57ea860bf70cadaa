-- What is found of the bytes of four files.
use Rattle.std.specs.Prelude.{◌≡◌, ◌≢◌, ℕ, List, [], ◌∷◌, length, replicate, codes}
use Rattle.con_events.specs.Session.{Clients}
use Rattle.con_trace.specs.Audit.{Found, a_run, no_run}
use Rattle.con_trace.specs.Report.{IsReport, IsWrongAt}
use Rattle.con_trace.specs.declared.trace.Trace.{Trace}
use Rattle.con_audit.specs.Audit.{Given, IsAudited}
use Rattle.con_audit.specs.declared.verdict.What.{What}
use Rattle.con_audit.specs.declared.verdict.What.TheVariants as what
use Rattle.con_audit.specs.declared.verdict.Verdict.{Verdict}
use Rattle.con_audit.specs.declared.verdict.Verdict.TheVariants as verdicts
use Rattle.con_inspect.specs.Four.{Four}
use Rattle.con_inspect.specs.declared.finding.Finding.{Finding}
use Rattle.con_inspect.specs.declared.finding.Finding.TheVariants as findings

-- the kinds of the handlers in a client's rack
abbrev pub kinds : List ℕ
kinds = 1 ∷ 2 ∷ 3 ∷ 4 ∷ []

-- what is audited of a session's document, a link and a stream, and a report that is read as this
abbrev pub given : Clients → Four → Trace → Given
given session four t = record {
  session = session;
  racks = replicate (length session.scripts) kinds;
  link = four.link;
  stream = four.stream;
  entries = t.entries;
  replies = t.replies;
  ends = t.ends;
}

-- What is found, by this session: the report is none, its first wrong line being this one; it is one with a status other than 0, and so many entries; or
-- with status 0, and this is what its audit finds.
abbrev pub Finds : Clients → Four → Finding → Type 0
Finds session four (findings.WrongLine n) = IsWrongAt n four.report
Finds session four (findings.OtherStatus count) = (t : Trace) × IsReport four.report t × (t.status ≢ 0) × (count ≡ length t.entries)
Finds session four (findings.Audited v) = (t : Trace) × IsReport four.report t × (t.status ≡ 0) × IsAudited (given session four t) v

-- ---- how it is told

abbrev pub word_of : What → List ℕ
word_of what.Ready = codes "ready"
word_of what.Reply = codes "reply"
word_of what.Follows = codes "follows"
word_of what.End = codes "end"
word_of what.Shows = codes "shows"
word_of what.Whole = codes "whole"

abbrev pub told_verdict : Verdict → Found
told_verdict verdicts.Yes = a_run
told_verdict (verdicts.No place w) = no_run place (word_of w)

abbrev pub told : Finding → Found
told (findings.WrongLine n) = no_run n (codes "line")
told (findings.OtherStatus count) = no_run count (codes "whole")
told (findings.Audited v) = told_verdict v

abbrev pub status_found : Finding → ℕ
status_found (findings.Audited verdicts.Yes) = 0
status_found _ = 13
