-- What a session leaves behind at its end.
use Rattle.std.proofs.Common.{◌≡◌, ◌⊎◌, ℕ, ◌+◌, ◌<◌, Bool, true, false, List, [], ◌∷◌, ◌++◌, length, append-nil}
use Rattle.std.proofs.Common.{Option, Some, None, refl, sym, ap, ◌∙◌, subst, inl, inr, arith}
use Rattle.std.specs.Prelude.{not, ◌&&◌, if◌then◌else◌}
use Rattle.con_link.specs.LinkReading.{LinkReading}
use Rattle.con_link.specs.declared.fault.LinkFault.{LinkFault}
use Rattle.con_link.specs.declared.fault.LinkFault.TheVariants as faults
use Rattle.con_events.specs.Session.{Clients}
use Rattle.con_events.specs.declared.actor.Actor.TheVariants as actors
use Rattle.con_events.specs.declared.end.End.{End}
use Rattle.con_events.specs.declared.end.End.TheVariants as ends
use Rattle.con_events.specs.declared.entry.Entry.{Entry}
use Rattle.con_events.specs.declared.event.Event.{Event}
use Rattle.con_events.specs.declared.event.Event.TheVariants as events
use Rattle.con_events.specs.declared.reply.Reply.{Reply}
use Rattle.con_events.specs.declared.script.Script.{Script}
use Rattle.con_machine.specs.Follows.{session_start, is_cut, is_lost}
use Rattle.con_machine.specs.History.{run}
use Rattle.con_laws.specs.Opens.{WaitsOrGone}
use Rattle.con_laws.specs.Rounds.{Begun, is_memory}
use Rattle.con_laws.specs.RoundLaws.{rounds_are}
use Rattle.con_laws.specs.RoundWords.{AreTurns, IsTurn, IsLast, MayFail, SideTurn, all_entries, all_order, clients_from, is_failed, is_nobody}
use Rattle.con_machine.specs.State.{State}
use Rattle.con_machine.specs.Step.{is_ready}
use Rattle.con_machine.specs.Turns.{sent, has_ended, paints}
use Rattle.con_laws.specs.Whole.{HaveAllLeft}
use Rattle.con_actors.specs.Outcome.{IsOutcomeBy}
use Rattle.con_actors.specs.Words.Sender.{end_for, FailsBy}
use Rattle.con_actors.specs.Seats.{AllStandBy, AllFollow}
use Rattle.con_actors.specs.Solo.{Moment, GoesBy, AllIdle, StopsBy, begins, end_by}
use Rattle.con_actors.specs.Standing.{ClientStands}
use Rattle.con_session.proofs.Going.{failing, fails_now}
use Rattle.con_session.proofs.Rounding.{AllRest, all_rest, broken_all, client_rests, nobody_none, painter_rests}
use Rattle.con_actors.specs.SenderLaws.{fails_false}
use Rattle.con_actors.specs.EndLaws.{waits_or_gone, left_by_waits, leaves_whole_by, leaves_stops_by, leaves_none_by}

-- ---- who has nothing to do

side_ended : (ended failed : Bool) → SideTurn ended failed None → ended ≡ true
side_ended true failed t = refl
side_ended false true t = absurd (cc)
side_ended false false t = absurd t

unready : (failed r : Bool) → failed ≡ false → None ≡ (if not failed && r then Some events.Paint else None) → r ≡ false
unready false false f e = refl
unready false true f e = absurd (cc)
unready true r f e = absurd (cc)

all_left : (session : Clients) (racks : List (List ℕ)) (f : Option ℕ) (h : List Entry)
    → ((k : ℕ) → k < length session.scripts → ClientStands (begins session racks f) h (k + 1))
    → AllRest (begins session racks f) h (clients_from 0 (length session.scripts) ++ actors.Painter ∷ []) → has_ended false (sent h) ≡ true
    → HaveAllLeft (session_start session racks) h session racks
all_left session racks f h k rest ended =
    let b = begins session racks f in
    let n = length session.scripts in
    let P : ℕ → Type 0 = λ z. IsTurn b h (actors.Client (z + 1)) None in
    let wait : (k : ℕ) → k < n → WaitsOrGone (run b.state h) (k + 1) = λ j i.
    waits_or_gone b h (j + 1) (k j i) (subst P (let e : 0 + j ≡ j = omega arith in e) (client_rests b h 0 n (actors.Painter ∷ []) rest j i)) in
    left_by_waits session racks f h k wait ended

fails_at_end : (failed : Bool) (end : End) (n : ℕ) → (failed ≡ true → 0 < n) → MayFail (is_lost (end_by failed end)) n (failing failed n)
fails_at_end true end n s = (refl, s refl, refl)
fails_at_end false end n s = tt

fails_lost : (failed : Bool) (n : ℕ) → (failed ≡ true → 0 < n) → MayFail true n (failing failed n)
fails_lost true n s = (refl, s refl, refl)
fails_lost false n s = tt

last_is : (memory : Bool) (b : Begun) (h : List Entry) (last : List (Option Event))
    → AreTurns false b h (all_order b) last → is_nobody last ≡ true → IsLast memory b h last
last_is false b h last are n = (are, n)
last_is true b h last are n = broken_all b h (all_order b) last are

-- ---- the whole

whole_outcome : (R : LinkReading) (M Then : List R.One → List Entry → Type 0) (session : Clients) (racks : List (List ℕ)) (scripts : List Script)
    (before old : Option (List ℕ)) (m : Moment)
    → GoesBy R M (begins session racks (failing m.failed (paints m.entries))) scripts before old m
    → AllIdle (begins session racks (failing m.failed (paints m.entries))) m.entries
    → ((k : ℕ) → k < length session.scripts → ClientStands (begins session racks (failing m.failed (paints m.entries))) m.entries (k + 1))
    → ((fs : List R.One) → M fs m.entries → Then fs m.entries)
    → IsOutcomeBy R Then session racks m.entries m.replies m.ends (end_by m.failed m.side.end) before m.left old m.written
whole_outcome R M Then session racks scripts before old m goes (last, are, nobody) stands then' =
    let n = paints m.entries in
    let f = failing m.failed n in
    let b = begins session racks f in
    let k = goes.holds in
    let (rounds, whole_rounds, parts) = goes.rounds in
    let rest = all_rest b m.entries (all_order b) last are nobody in
    let ended = side_ended (has_ended false (sent m.entries)) (is_failed f n) rest.0 in
    let left = all_left session racks f m.entries stands rest.1 ended in
    let end = end_by m.failed m.side.end in
    let A : List Entry → Type 0 = λ z. AreTurns false b z (all_order b) last in
    record {
      leaves = leaves_whole_by R M Then session racks f scripts before old m k stands ended left
          (λ g. unready (is_failed f n) (is_ready (run (session_start session racks) m.entries) actors.Painter events.Paint)
          (fails_false m.failed f n g (fails_now m.failed n)) (painter_rests b m.entries 0 (length session.scripts) rest.1))
          then';
      rounds = rounds_are (session_start session racks) m.entries session racks end (record {
        failed = f;
        fails = fails_at_end m.failed m.side.end n k.some;
        rounds = rounds;
        last = last;
        parts = parts ∙ sym (ap (λ (z : List Entry). all_entries (all_order b) rounds ++ z) (nobody_none (all_order b) last nobody)
            ∙ append-nil (all_entries (all_order b) rounds));
        turns_are = whole_rounds;
        last_is = last_is (is_memory end) b (all_entries (all_order b) rounds) last (subst A parts are) nobody;
      });
    }

-- nobody has anything left to do
pub outcome_whole : (R : LinkReading) (M Then : List R.One → List Entry → Type 0) (session : Clients) (racks : List (List ℕ)) (scripts : List Script)
    (before old : Option (List ℕ)) (m : Moment) (end : End) → end ≡ end_by m.failed m.side.end
    → ((f : Option ℕ) → FailsBy m.failed f (paints m.entries)
    → GoesBy R M (begins session racks f) scripts before old m × AllIdle (begins session racks f) m.entries)
    → ((b : Begun) (s : State) (h : List Entry) → AllStandBy b s h scripts m.workers m.places m.memories m.slots → AllFollow b h (length scripts))
    → ((fs : List R.One) → M fs m.entries → Then fs m.entries)
    → IsOutcomeBy R Then session racks m.entries m.replies m.ends end before m.left old m.written
outcome_whole R M Then session racks scripts before old m end e all follow then' =
    let f = failing m.failed (paints m.entries) in
    let both = all f (fails_now m.failed (paints m.entries)) in
    let b = begins session racks f in
    let P : End → Type 0 = λ z. IsOutcomeBy R Then session racks m.entries m.replies m.ends z before m.left old m.written in
    let N : ℕ → Type 0 = λ z. AllFollow b m.entries z in
    subst P (sym e) (whole_outcome R M Then session racks scripts before old m both.0 both.1
    (subst N (ap (λ (z : List Script). length z) both.0.holds.scripts') (follow b m.state m.entries both.0.holds.clients)) then')

-- there was no memory
pub outcome_stops : (R : LinkReading) (Then : List R.One → List Entry → Type 0) (session : Clients) (racks : List (List ℕ))
    (before old left written : Option (List ℕ)) (h : List Entry) (rs : List Reply) (es : List ℕ) (failed : Bool)
    → ((f : Option ℕ) → FailsBy failed f (paints h) → StopsBy R Then (begins session racks f) before old h rs es left written failed)
    → IsOutcomeBy R Then session racks h rs es ends.Memory before left old written
outcome_stops R Then session racks before old left written h rs es failed all =
    let n = paints h in
    let f = failing failed n in
    let b = begins session racks f in
    let k = all f (fails_now failed n) in
    let (rounds, last, whole_rounds, turns', parts) = k.rounds in
    record {
      leaves = leaves_stops_by R Then session racks f before old left written h rs es k.legal k.replies k.numbered k.clients k.link k.canvas;
      rounds = rounds_are (session_start session racks) h session racks ends.Memory
          (record { failed = f; fails = fails_lost failed n k.some; rounds = rounds; last = last; parts = parts; turns_are = whole_rounds; last_is = turns' });
    }

-- there was none to begin with
pub outcome_none : (R : LinkReading) (Then : List R.One → List Entry → Type 0) (session : Clients) (racks : List (List ℕ)) (before old : Option (List ℕ))
    → Then [] [] → IsOutcomeBy R Then session racks [] [] [] ends.Memory before before old old
outcome_none R Then session racks before old more = record {
  leaves = leaves_none_by R Then session racks before old more;
  rounds = rounds_are (session_start session racks) [] session racks ends.Memory
      (record { failed = None; fails = tt; rounds = []; last = []; parts = refl; turns_are = tt; last_is = refl });
}

-- ---- as it is handed out

handed : (R : LinkReading) (Then : List R.One → List Entry → Type 0) (session : Clients) (racks : List (List ℕ)) (before left old now : Option (List ℕ))
    (h g : List Entry) (rs qs : List Reply) (es xs : List ℕ) (end other : End) → h ≡ g → rs ≡ qs → es ≡ xs → end ≡ other
    → IsOutcomeBy R Then session racks g qs xs other before left old now → IsOutcomeBy R Then session racks h rs es end before left old now
handed R Then session racks before left old now h g rs qs es xs end other eh er ee en k =
    let P : List Entry → Type 0 = λ z. IsOutcomeBy R Then session racks z rs es end before left old now in
    let Q : List Reply → Type 0 = λ z. IsOutcomeBy R Then session racks g z es end before left old now in
    let E : List ℕ → Type 0 = λ z. IsOutcomeBy R Then session racks g qs z end before left old now in
    let S : End → Type 0 = λ z. IsOutcomeBy R Then session racks g qs xs z before left old now in
    subst P (sym eh) (subst Q (sym er) (subst E (sym ee) (subst S (sym en) k)))

pub handed_none : (R : LinkReading) (Then : List R.One → List Entry → Type 0) (session : Clients) (racks : List (List ℕ)) (before old : Option (List ℕ))
    (h : List Entry) (rs : List Reply) (es : List ℕ) (end : End) → h ≡ [] → rs ≡ [] → es ≡ [] → end ≡ ends.Memory → Then [] []
    → IsOutcomeBy R Then session racks h rs es end before before old old
handed_none R Then session racks before old h rs es end eh er ee en more =
    handed R Then session racks before before old old h [] rs [] es [] end ends.Memory eh er ee en (outcome_none R Then session racks before old more)

pub handed_whole : (R : LinkReading) (M Then : List R.One → List Entry → Type 0) (session : Clients) (racks : List (List ℕ)) (scripts : List Script)
    (before old : Option (List ℕ)) (m : Moment) (h : List Entry) (rs : List Reply) (es : List ℕ) (end other : End)
    → ((f : Option ℕ) → FailsBy m.failed f (paints m.entries)
    → GoesBy R M (begins session racks f) scripts before old m × AllIdle (begins session racks f) m.entries)
    → h ≡ m.entries → rs ≡ m.replies → es ≡ m.ends → end ≡ other → other ≡ end_by m.failed m.side.end
    → ((b : Begun) (s : State) (g : List Entry) → AllStandBy b s g scripts m.workers m.places m.memories m.slots → AllFollow b g (length scripts))
    → ((fs : List R.One) → M fs m.entries → Then fs m.entries)
    → IsOutcomeBy R Then session racks h rs es end before m.left old m.written
handed_whole R M Then session racks scripts before old m h rs es end other all eh er ee en eo follow then' = handed R Then session racks before m.left old
    m.written h m.entries rs m.replies es m.ends end other eh er ee en (outcome_whole R M Then session racks scripts before old m other eo all follow then')

pub handed_stops : (R : LinkReading) (Then : List R.One → List Entry → Type 0) (session : Clients) (racks : List (List ℕ))
    (before old left written : Option (List ℕ)) (failed : Bool) (h g : List Entry) (rs qs : List Reply) (es xs : List ℕ) (end : End)
    → ((f : Option ℕ) → FailsBy failed f (paints g) → StopsBy R Then (begins session racks f) before old g qs xs left written failed) → h ≡ g → rs ≡ qs
    → es ≡ xs → end ≡ ends.Memory → IsOutcomeBy R Then session racks h rs es end before left old written
handed_stops R Then session racks before old left written failed h g rs qs es xs end all eh er ee en = handed R Then session racks before left old
    written h g rs qs es xs end ends.Memory eh er ee en (outcome_stops R Then session racks before old left written g qs xs failed all)

-- a session ends with Term only where the terminal failed

not_term : (f : LinkFault) → ends.Term ≡ end_for f → ⊥
not_term faults.Failed e = cc
not_term faults.TooLong e = cc
not_term (faults.Bad place kind) e = cc
not_term faults.OutOfMemory e = cc

term_failed : (R : LinkReading) (M : List R.One → List Entry → Type 0) (failed : Bool) (b : Begun) (scripts : List Script) (before old : Option (List ℕ))
    (m : Moment) → GoesBy R M b scripts before old m → end_by failed m.side.end ≡ ends.Term → failed ≡ true
term_failed R M true b scripts before old m k e = refl
term_failed R M false b scripts before old m k e = let q = k.holds.link.fault (ap is_cut e) in absurd (not_term q.0 (sym e ∙ q.2))

pub term_by : (R : LinkReading) (M : List R.One → List Entry → Type 0) (P : Type 0) (session : Clients) (racks : List (List ℕ)) (scripts : List Script)
    (before old : Option (List ℕ)) (m : Moment) (was : Bool) (end other : End)
    → ((f : Option ℕ) → FailsBy m.failed f (paints m.entries)
    → GoesBy R M (begins session racks f) scripts before old m × AllIdle (begins session racks f) m.entries)
    → was ≡ false → (m.failed ≡ true → (was ≡ true) ⊎ P) → end ≡ other → other ≡ end_by m.failed m.side.end → end ≡ ends.Term → P
term_by R M P session racks scripts before old m was end other all w f e o t =
    let g = failing m.failed (paints m.entries) in
    let k = all g (fails_now m.failed (paints m.entries)) in
    elim (f (term_failed R M m.failed (begins session racks g) scripts before old m k.0 (sym o ∙ (sym e ∙ t)))) [
      | inl x ↦ absurd (let z = sym w ∙ x in cc)
      | inr p ↦ p
    ]
