-- Why no session runs, and what is never why.
use Rattle.std.proofs.Common.{◌≡◌, refl, sym, subst, ap, ◌∙◌, arith, ℕ, ◌<◌, ◌≤◌, List, length, Option, Some, None}
use Rattle.std.specs.Prelude.{IfSome, Result, Ok, Err, unwrap_or}
use Rattle.con_events.specs.Session.{Clients}
use Rattle.con_outside.specs.Named.{IsTooLong}
use Rattle.con_document.specs.Document.{IsDocument, json_of}
use Rattle.con_document.specs.StepLaws.{no_document, one_document}
use Rattle.con_lines.specs.Ending.{Ending, ending_text, status_of}
use Rattle.con_lines.specs.Line.{ended}
use Rattle.con_ending.specs.Ending.{Tells}
use Rattle.con_ending.specs.Files.{Holds, IsFile, Reason, missing, unread, too_long, no_json, no_session, ending_for}
use Rattle.con_sessions.specs.Foretold.{IsSession}
use Rattle.con_sessions.specs.Laws.{apart, is_why, says}
use Rattle.con_sessions.proofs.Reports.{failed_at}

some_is : (a b : List ℕ) → Some a ≡ Some b → a ≡ b
some_is a b e = ap (λ o. unwrap_or o a) e

no_bytes : (bytes : List ℕ) (o : Option (List ℕ)) → o ≡ None → o ≡ Some bytes → ⊥
no_bytes bytes o e f = let bad : None ≡ Some bytes = sym e ∙ f in absurd (cc)

short : (bytes : List ℕ) → length bytes ≤ 16777216 → 16777216 < length bytes → ⊥
short bytes few many = absurd (omega (arith, few, many))

-- the bytes of the file are those of the session
its_bytes : (find : List ℕ → Option (List ℕ)) (files : Option (List ℕ → Option (List ℕ))) (name bytes other : List ℕ) → files ≡ Some find → find name ≡ Some bytes → IsFile files name other → other ≡ bytes
its_bytes find files name bytes other e f is =
    let there : find name ≡ Some other = subst (λ o. IfSome o (λ find. find name ≡ Some other)) e is.1 in
    some_is other bytes (sym there ∙ f)

no_fault : (bytes : List ℕ) (session : Clients) (w : List ℕ) → IsDocument bytes (Err w) → IsDocument bytes (Ok session) → ⊥
no_fault bytes session w e f = let bad : ◌≡◌ {A = Result Clients (List ℕ)} (Err w) (Ok session) = one_document bytes (Err w) (Ok session) e f in absurd (cc)

-- a file that is a session runs, unless the files failed
pub no_reason : (files : Option (List ℕ → Option (List ℕ))) (name : List ℕ) (failed : Type 0) (session : Clients) (why : Reason) → IsSession files name session → ¬ failed → Holds files name failed why → ⊥
no_reason files name failed session missing is sure h = no_bytes is.1 (is.0 name) (subst (λ o. IfSome o (λ find. find name ≡ None)) is.2 h) is.3
no_reason files name failed session unread is sure h = sure h
no_reason files name failed session too_long is sure h = short is.1 is.4 (subst IsTooLong is.3 (subst (λ o. IfSome o (λ find. IsTooLong (find name))) is.2 h))
no_reason files name failed session (no_json bytes) is sure h = no_document is.1 (Ok session) (subst (λ b. json_of b ≡ None) (its_bytes is.0 files name is.1 bytes is.2 is.3 h.0) h.1) is.5
no_reason files name failed session (no_session bytes w) is sure h = no_fault is.1 session w (subst (λ b. IsDocument b (Err w)) (its_bytes is.0 files name is.1 bytes is.2 is.3 h.0) h.1) is.5

-- ---- no such status

pub failed_by : (s : ℕ) (why : Reason) (last : Ending) (before now : Option (List ℕ)) (failed : Type 0) → last ≡ ending_for why → Tells s last before now failed → s ≡ 6 → failed
failed_by s why last before now failed is t e =
    failed_at s (status_of last) (ended (ending_text last)) before now failed t (λ six. apart is_why (status_of (ending_for why)) 6 (says why) refl (sym (ap status_of is) ∙ six)) e
