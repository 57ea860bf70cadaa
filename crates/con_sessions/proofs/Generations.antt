-- A generated session that has run, and what was written of it.
use Rattle.std.proofs.Common.{◌≡◌, ◌∙◌, ℕ, List, [], Option, Some, subst, ap}
use Rattle.con_events.specs.Session.{Clients}
use Rattle.con_events.specs.declared.end.End.{End}
use Rattle.con_events.specs.declared.end.End.TheVariants as ends
use Rattle.con_events.specs.declared.entry.Entry.{Entry}
use Rattle.con_events.specs.declared.reply.Reply.{Reply}
use Rattle.con_machine.specs.Follows.{session_start}
use Rattle.con_laws.specs.Once.{TakenOnce}
use Rattle.con_script.specs.Generated.{session_drawn}
use Rattle.con_actors.specs.Outcome.{IsSoloOutcome}
use Rattle.con_outside.specs.Outside.{then_written, WrotePart}
use Rattle.con_sessions.specs.Generating.{GeneratedRun, summary_of}
use Rattle.con_sessions.specs.Summary.{summary_text}

-- a part of the same bytes, and all of them
pub part_is : (xs ys : List ℕ) (a b : Option (List ℕ)) → xs ≡ ys → WrotePart xs a b → WrotePart ys a b
part_is xs ys a b e w = subst (λ zs. WrotePart zs a b) e w

pub whole_is : (xs ys : List ℕ) (a b : Option (List ℕ)) → xs ≡ ys → b ≡ then_written a xs → b ≡ then_written a ys
whole_is xs ys a b e w = w ∙ ap (then_written a) e

-- ---- the session itself

abbrev pub generated_run : (seed : ℕ) (session : Clients) (racks : List (List ℕ)) (h : List Entry) (rs : List Reply) (es : List ℕ) (end : End) (before left old : Option (List ℕ)) (stream : List ℕ) → session ≡ session_drawn seed → racks ≡ [] → end ≡ ends.Done
    → before ≡ Some [] → old ≡ Some [] → IsSoloOutcome session racks h rs es end before left old (Some stream)
    → ((s : Clients) (ks : List (List ℕ)) (g : List Entry) → TakenOnce (session_start s ks) g) → GeneratedRun seed
generated_run seed session racks h rs es end before left old stream drawn none done link term outcome once = record {
  entries = h;
  replies = rs;
  ends' = es;
  stream = stream;
  left = left;
  outcome = subst (λ o. IsSoloOutcome (session_drawn seed) [] h rs es ends.Done (Some []) left o (Some stream)) term
      (subst (λ b. IsSoloOutcome (session_drawn seed) [] h rs es ends.Done b left old (Some stream)) link
      (subst (λ e. IsSoloOutcome (session_drawn seed) [] h rs es e before left old (Some stream)) done
      (subst (λ ks. IsSoloOutcome (session_drawn seed) ks h rs es end before left old (Some stream)) none
      (subst (λ s. IsSoloOutcome s racks h rs es end before left old (Some stream)) drawn outcome))));
  once = once (session_drawn seed) [] h;
}

-- what a function that ran it answers: the bytes of its stream and of its summary
abbrev pub Made : ℕ → List ℕ → List ℕ → Type 0
Made seed stream summary = (run : GeneratedRun seed) × (stream ≡ run.stream) × (summary ≡ summary_of seed run)

pub made_by : (seed : ℕ) (session : Clients) (racks : List (List ℕ)) (h : List Entry) (rs : List Reply) (es : List ℕ) (end : End) (before left old : Option (List ℕ)) (stream xs a b : List ℕ) → session ≡ session_drawn seed → racks ≡ [] → end ≡ ends.Done
    → before ≡ Some [] → old ≡ Some [] → IsSoloOutcome session racks h rs es end before left old (Some stream) → xs ≡ stream → (a ≡ xs) × (b ≡ summary_text session h rs xs)
    → ((s : Clients) (ks : List (List ℕ)) (g : List Entry) → TakenOnce (session_start s ks) g) → Made seed a b
made_by seed session racks h rs es end before left old stream xs a b drawn none done link term outcome same made once = (
  generated_run seed session racks h rs es end before left old stream drawn none done link term outcome once,
  made.0 ∙ same,
  made.1 ∙ (ap (λ s. summary_text s h rs xs) drawn ∙ ap (λ t. summary_text (session_drawn seed) h rs t) same),
)
