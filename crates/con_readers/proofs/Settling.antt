-- Pumping to the end is settling.
use Rattle.std.proofs.Common.{◌≡◌, ℕ, Bool, List, [], ◌∷◌, ◌++◌, true, false, refl, ap, ◌∙◌, sym, Option, Some, None}
use Rattle.std.specs.Prelude.{if◌then◌else◌}
use Rattle.con_records.specs.declared.record.Record.{Record}
use Rattle.con_history.specs.declared.histories.Histories.{Histories}
use Rattle.con_alias.specs.Aliases.{AliasList}
use Rattle.con_readers.specs.declared.open.Open.{Open}
use Rattle.con_cooked.specs.declared.cooked.Cooked.{Cooked}
use Rattle.con_cooked.specs.Cooked.{line_of, is_return}
use Rattle.con_cooked.specs.Words.Cooked.{echo_between}
use Rattle.con_cooked.specs.Keys.{key_of}
use Rattle.con_cooked.specs.Mask.{is_masked}
use Rattle.con_cooked.specs.declared.progress.Echo.{Echo}
use Rattle.con_readers.specs.Wants.{units_of}
use Rattle.con_readers.specs.Words.Lines.{line_after}
use Rattle.con_readers.specs.Act.{Act, began}
use Rattle.con_readers.specs.Serving.{is_done, Served, served, served_line, given_units}
use Rattle.con_readers.specs.Words.Serving.{Took, took, took_units, took_one, served_on}
use Rattle.con_readers.specs.Reads.{Settled, settled}
use Rattle.con_readers.specs.Words.Reads.{Pumped, pumped, Moved, moved, before, settled_after}
use Rattle.con_readers.specs.declared.open.OpenRead.{OpenRead}
use Rattle.con_readers.specs.declared.open.OpenRead.TheVariants as reads
use Rattle.con_readers.proofs.OneRecord.{pressed_so}

-- the serving of a read after one step
on_from : Option Act → Served → Served
on_from None s = s
on_from (Some a) s = record s { acts = a ∷ s.acts }

-- what is served begins with this step
Begins : ℕ → List AliasList → Took → Served → Type 0
Begins p al t whole = (a : Act) × ((t.act ≡ Some a) × (whole ≡ on_from (Some a) (served p al t.read t.records t.histories)))

line-step : (p : ℕ) (al : List AliasList) (line line' : Cooked) (rs : List Record) (hs : Histories) (echo : Echo) (masked returned : Bool)
    → Begins p al (took_one p al line line' rs hs (pressed_so masked returned echo)) (served_on p al line line' rs hs (served_line p al line' rs hs) masked returned)
unfolding Begins served on_from
line-step p al line line' rs hs echo true returned = (_, (refl, refl))
line-step p al line line' rs hs echo false true = (_, (refl, refl))
line-step p al line line' rs hs echo false false = (_, (refl, refl))

units-step : (p n : ℕ) (al : List AliasList) (rs : List Record) (hs : Histories) (us : List ℕ) → Begins p al (took_units p n rs hs us) (given_units p n rs hs us)
unfolding Begins served on_from
units-step p n al rs hs [] = (_, (refl, refl))
units-step p n al rs hs (u ∷ us) = (_, (refl, refl))

-- one read that is not done and was started: its serving begins with its next step
served-step : (p : ℕ) (al : List AliasList) (read : OpenRead) (r : Record) (rs : List Record) (hs : Histories) → is_done read ≡ false → Begins p al (took p al read (r ∷ rs) hs) (served p al read (r ∷ rs) hs)
unfolding served Begins on_from
served-step p al (reads.Line line) r rs hs h =
    line-step p al line (line_after line r hs) rs hs (echo_between (line_of line).line (line_of (line_after line r hs)).line) (is_masked line.mask r) (is_return (key_of r))
served-step p al (reads.Units n) r rs hs h = units-step p n al (r ∷ rs) hs (units_of n (r ∷ rs))
served-step p al (reads.Records n) r rs hs h = (_, (refl, refl))
served-step p al (reads.Done a) r rs hs h = cc

served-none : (p : ℕ) (al : List AliasList) (read : OpenRead) (hs : Histories) → served p al read [] hs ≡ record { read = read; records = []; histories = hs; acts = [] }
unfolding served
served-none p al (reads.Line line) hs = refl
served-none p al (reads.Units n) hs = refl
served-none p al (reads.Records n) hs = refl
served-none p al (reads.Done a) hs = refl

served-done : (p : ℕ) (al : List AliasList) (read : OpenRead) (rs : List Record) (hs : Histories) → is_done read ≡ true → served p al read rs hs ≡ record { read = read; records = rs; histories = hs; acts = [] }
unfolding served
served-done p al (reads.Line line) rs hs h = cc
served-done p al (reads.Units n) rs hs h = cc
served-done p al (reads.Records n) rs hs h = cc
served-done p al (reads.Done a) rs hs h = refl

-- an open read by its parts
opn : ℕ → Bool → OpenRead → Open
opn p started read = record { process = p; started = started; read = read }

-- what settles where the first read was served so
settled_one : List AliasList → ℕ → List Open → Served → Settled
settled_one al p os s =
    if is_done s.read then (let t = settled al os s.records s.histories in record { reads = opn p true s.read ∷ t.reads; records = t.records; histories = t.histories; acts = s.acts ++ t.acts })
    else record { reads = opn p true s.read ∷ os; records = s.records; histories = s.histories; acts = s.acts }

cons_settled : Open → Settled → Settled
cons_settled o t = record t { reads = o ∷ t.reads }

settled-done : (al : List AliasList) (o : Open) (os : List Open) (rs : List Record) (hs : Histories) → is_done o.read ≡ true → settled al (o ∷ os) rs hs ≡ cons_settled o (settled al os rs hs)
unfolding settled cons_settled
settled-done al o os rs hs e = rw e refl

started_undone : (al : List AliasList) (p : ℕ) (read : OpenRead) (os : List Open) (rs : List Record) (hs : Histories) → is_done read ≡ false → settled al (opn p true read ∷ os) rs hs ≡ settled_one al p os (served p al read rs hs)
unfolding settled settled_one opn
started_undone al p read os rs hs e = rw e refl

started_done : (al : List AliasList) (p : ℕ) (read : OpenRead) (os : List Open) (rs : List Record) (hs : Histories) → is_done read ≡ true → settled al (opn p true read ∷ os) rs hs ≡ settled_one al p os (served p al read rs hs)
unfolding settled settled_one opn
started_done al p read os rs hs e = rw (served-done p al read rs hs e, e) refl

settled-started : (al : List AliasList) (p : ℕ) (read : OpenRead) (os : List Open) (rs : List Record) (hs : Histories) → settled al (opn p true read ∷ os) rs hs ≡ settled_one al p os (served p al read rs hs)
settled-started al p read os rs hs = by_done (is_done read) refl
  where
    by_done : (b : Bool) → is_done read ≡ b → settled al (opn p true read ∷ os) rs hs ≡ settled_one al p os (served p al read rs hs)
    by_done true e = started_done al p read os rs hs e
    by_done false e = started_undone al p read os rs hs e

one_step : (al : List AliasList) (p : ℕ) (os : List Open) (s : Served) (a : Act) (b : Bool) → is_done s.read ≡ b → settled_one al p os (on_from (Some a) s) ≡ before a (settled_one al p os s)
unfolding settled_one before on_from
one_step al p os s a true e = rw e refl
one_step al p os s a false e = rw e refl

unstarted_by : (al : List AliasList) (p : ℕ) (read : OpenRead) (os : List Open) (rs : List Record) (hs : Histories) (b : Bool) → is_done (served p al read rs hs).read ≡ b → is_done read ≡ false → settled al (opn p false read ∷ os) rs hs ≡ before (began p) (settled_one al p os (served p al read rs hs))
unfolding settled settled_one before opn
unstarted_by al p read os rs hs true d e = rw (e, d) refl
unstarted_by al p read os rs hs false d e = rw (e, d) refl

after_cons : (al : List AliasList) (o : Open) (q : Pumped) (x : Option Act) → q.act ≡ x → is_done o.read ≡ true → settled_after al (record q { reads = o ∷ q.reads }) ≡ cons_settled o (settled_after al q)
unfolding settled_after cons_settled before
after_cons al o q None i e = rw i refl
after_cons al o q (Some a) i e = rw (i, settled-done al o q.reads q.records q.histories e) refl

after_one : (al : List AliasList) (q : Pumped) (a : Act) → q.act ≡ Some a → settled_after al q ≡ before a (settled al q.reads q.records q.histories)
unfolding settled_after
after_one al q a e = rw e refl

one_none : (al : List AliasList) (p : ℕ) (read : OpenRead) (os : List Open) (hs : Histories) → is_done read ≡ false → settled_one al p os (record { read = read; records = []; histories = hs; acts = [] }) ≡ record { reads = opn p true read ∷ os; records = []; histories = hs; acts = [] }
unfolding settled_one
one_none al p read os hs e = rw e refl

idle_none : (al : List AliasList) (p : ℕ) (read : OpenRead) (os : List Open) (hs : Histories) → record { reads = opn p true read ∷ os; records = []; histories = hs; acts = [] } ≡ settled_after al (record { reads = opn p true read ∷ os; records = []; histories = hs; act = None })
unfolding settled_after
idle_none al p read os hs = refl

-- the step of a read that is not done, at the front of the list
step_of : Moved → List Open → Pumped
step_of m os = record { reads = m.one ∷ os; records = m.records; histories = m.histories; act = m.act }

-- what is served and begins with a step settles so
begins_on : (al : List AliasList) (p : ℕ) (os : List Open) (t : Took) (s : Served) → Begins p al t s
    → settled_one al p os s ≡ settled_after al (step_of (record { one = opn p true t.read; records = t.records; histories = t.histories; act = t.act }) os)
unfolding Begins step_of
begins_on al p os t s one =
    ap (λ (s : Served). settled_one al p os s) one.1.1
    ∙ one_step al p os (served p al t.read t.records t.histories) one.0 (is_done (served p al t.read t.records t.histories).read) refl
    ∙ ap (before one.0) (sym (settled-started al p t.read os t.records t.histories))
    ∙ sym (after_one al (record { reads = opn p true t.read ∷ os; records = t.records; histories = t.histories; act = t.act }) one.0 one.1.0)

-- a read that is not done, by whether it was started and whether records are there
undone : (al : List AliasList) (p : ℕ) (started : Bool) (read : OpenRead) (os : List Open) (rs : List Record) (hs : Histories) → is_done read ≡ false
    → settled al (opn p started read ∷ os) rs hs ≡ settled_after al (step_of (moved al (opn p started read) rs hs) os)
unfolding opn step_of
undone al p false read os rs hs e = unstarted_by al p read os rs hs (is_done (served p al read rs hs).read) refl e ∙ ap (before (began p)) (sym (settled-started al p read os rs hs))
    ∙ sym (after_one al (record { reads = opn p true read ∷ os; records = rs; histories = hs; act = Some (began p) }) (began p) refl)
undone al p true read os [] hs e = settled-started al p read os [] hs ∙ ap (λ (s : Served). settled_one al p os s) (served-none p al read hs) ∙ one_none al p read os hs e ∙ idle_none al p read os hs
undone al p true read os (r ∷ rs) hs e = settled-started al p read os (r ∷ rs) hs ∙ begins_on al p os (took p al read (r ∷ rs) hs) (served p al read (r ∷ rs) hs) (served-step p al read r rs hs e)

undone_open : (al : List AliasList) (o : Open) (os : List Open) (rs : List Record) (hs : Histories) → is_done o.read ≡ false → settled al (o ∷ os) rs hs ≡ settled_after al (step_of (moved al o rs hs) os)
unfolding opn
undone_open al o os rs hs e = undone al o.process o.started o.read os rs hs e

none_settled : (al : List AliasList) (rs : List Record) (hs : Histories) → settled al [] rs hs ≡ settled_after al (record { reads = []; records = rs; histories = hs; act = None })
unfolding settled settled_after
none_settled al rs hs = refl

pub settled-pumped : (al : List AliasList) (os : List Open) (rs : List Record) (hs : Histories) → settled al os rs hs ≡ settled_after al (pumped al os rs hs)
unfolding step_of
settled-pumped al [] rs hs = none_settled al rs hs
settled-pumped al (o ∷ os) rs hs = by_done (is_done o.read) refl (settled-pumped al os rs hs)
  where
    by_done : (b : Bool) → is_done o.read ≡ b → settled al os rs hs ≡ settled_after al (pumped al os rs hs) → settled al (o ∷ os) rs hs ≡ settled_after al (pumped al (o ∷ os) rs hs)
    by_done true e ih = settled-done al o os rs hs e ∙ ap (λ (t : Settled). cons_settled o t) ih ∙ sym (after_cons al o (pumped al os rs hs) (pumped al os rs hs).act refl e) ∙ rw e refl
    by_done false e ih = undone_open al o os rs hs e ∙ rw e refl
