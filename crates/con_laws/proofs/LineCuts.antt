-- Line reads are served alike in one go and in two.
use Rattle.std.proofs.Common.{◌≡◌, ℕ, zero, suc, Bool, true, false, List, [], ◌∷◌, ◌++◌, Option, None, Some, refl, sym, ap, subst, ◌∙◌, append_assoc, true≢false}
use Rattle.std.specs.Prelude.{fold, if◌then◌else◌}
use Rattle.std.specs.List.{position_or_len}
use Rattle.std.proofs.lemmas.List.Sums.{fold-append}
use Rattle.con_units.specs.Units.{changed_at}
use Rattle.con_units.specs.declared.code.Code.TheVariants as code
use Rattle.con_alias.specs.Aliases.{AliasList}
use Rattle.con_cooked.specs.Cooked.{is_return}
use Rattle.con_cooked.specs.Keys.{key_of}
use Rattle.con_cooked.specs.Mask.{is_masked}
use Rattle.con_cooked.specs.declared.cooked.Cooked.{Cooked}
use Rattle.con_history.specs.Histories.{LineHistories}
use Rattle.con_readers.specs.Act.{Act, began, typed, passed, ended, woke}
use Rattle.con_readers.specs.Words.Lines.{line_after}
use Rattle.con_readers.specs.Reads.{Settled, settled, line_aborted, failed, is_open_line}
use Rattle.con_readers.specs.Words.Reads.{first_acts}
use Rattle.con_readers.specs.Serving.{Served, is_done, served, served_line}
use Rattle.con_readers.specs.Words.Serving.{served_on}
use Rattle.con_readers.specs.declared.open.Open.{Open}
use Rattle.con_readers.specs.declared.open.OpenRead.{OpenRead}
use Rattle.con_readers.specs.declared.open.OpenRead.TheVariants as reads
use Rattle.con_records.specs.declared.record.Record.{Record}
use Rattle.con_machine.specs.State.{State, noted_of}
use Rattle.con_machine.specs.EventLaws.{settled_shows}
use Rattle.con_machine.specs.Serving.{followed, settled_state}
use Rattle.con_machine.specs.Words.Serving.{settled_from, line_shown, line_finished, shows_line}
use Rattle.con_laws.specs.Cut.{is_line_or_done, AreLines}
use Rattle.con_machine.specs.declared.reads.noted.Noted.{Noted}
use Rattle.con_laws.proofs.Peeked.{none_left}

-- ---- one read

-- more records behind those that a read was served with
abbrev then_served : ℕ → List AliasList → Served → List Record → Served
then_served p al s more = if is_done s.read then record s { records = s.records ++ more } else
    (let t = served p al s.read more s.histories in record t { acts = s.acts ++ t.acts })

abbrev with_act : Act → Served → Served
with_act a s = record s { acts = a ∷ s.acts }

act_first : (p : ℕ) (al : List AliasList) (a : Act) (s : Served) (more : List Record) (b : Bool) → is_done s.read ≡ b
    → with_act a (then_served p al s more) ≡ then_served p al (with_act a s) more
act_first p al a s more true d = rw d refl
act_first p al a s more false d = rw d refl

on_more : (p : ℕ) (al : List AliasList) (line line' : Cooked) (rs more : List Record) (hs : LineHistories) (later both : Served) (masked returned : Bool)
    → both ≡ then_served p al later more
    → served_on p al line line' (rs ++ more) hs both masked returned ≡ then_served p al (served_on p al line line' rs hs later masked returned) more
on_more p al line line' rs more hs later both true returned ih = refl
on_more p al line line' rs more hs later both false true ih = refl
on_more p al line line' rs more hs later both false false ih = ap (with_act (typed p line line')) ih
    ∙ act_first p al (typed p line line') later more (is_done later.read) refl

pub line_more : (p : ℕ) (al : List AliasList) (line : Cooked) (rs more : List Record) (hs : LineHistories)
    → served_line p al line (rs ++ more) hs ≡ then_served p al (served_line p al line rs hs) more
unfolding served
line_more p al line [] more hs = refl
line_more p al line (r ∷ rs) more hs =
    on_more p al line (line_after line r hs) rs more hs (served_line p al (line_after line r hs) rs hs)
    (served_line p al (line_after line r hs) (rs ++ more) hs) (is_masked line.mask r) (is_return (key_of r))
    (line_more p al (line_after line r hs) rs more hs)

read_more : (p : ℕ) (al : List AliasList) (r : OpenRead) (rs more : List Record) (hs : LineHistories) → is_line_or_done r ≡ true → is_done r ≡ false
    → served p al r (rs ++ more) hs ≡ then_served p al (served p al r rs hs) more
unfolding served
read_more p al (reads.Line line) rs more hs l d = line_more p al line rs more hs
read_more p al (reads.Units n) rs more hs l d = absurd (true≢false (sym l))
read_more p al (reads.Records n) rs more hs l d = absurd (true≢false (sym l))
read_more p al (reads.Done a) rs more hs l d = absurd (true≢false d)

-- ---- all reads

abbrev then_settled : List AliasList → Settled → List Record → Settled
then_settled al t more = let u = settled al t.reads (t.records ++ more) t.histories in record u { acts = t.acts ++ u.acts }

done_more : (al : List AliasList) (o : Open) (os : List Open) (rs more : List Record) (hs : LineHistories) → is_done o.read ≡ true
    → settled al os (rs ++ more) hs ≡ then_settled al (settled al os rs hs) more
    → settled al (o ∷ os) (rs ++ more) hs ≡ then_settled al (settled al (o ∷ os) rs hs) more
unfolding settled
done_more al o os rs more hs d ih = rw (d, d) (ap (λ (t : Settled). let u : Settled = record t { reads = o ∷ t.reads } in u) ih)

-- the first read that is not done, as it was served, and those behind it
abbrev settled_by : List AliasList → Open → List Open → Served → Settled
settled_by al o os s = let one : Open = record o { read = s.read; started = true } in
    if is_done s.read then (let t = settled al os s.records s.histories in record { reads = one ∷ t.reads; records = t.records; histories = t.histories; acts = first_acts o s.acts ++ t.acts })
    else record { reads = one ∷ os; records = s.records; histories = s.histories; acts = first_acts o s.acts }

undone_is : (al : List AliasList) (o : Open) (os : List Open) (rs : List Record) (hs : LineHistories) → is_done o.read ≡ false
    → settled al (o ∷ os) rs hs ≡ settled_by al o os (served o.process al o.read rs hs)
unfolding settled
undone_is al o os rs hs d = rw d refl

done_is : (al : List AliasList) (o : Open) (os : List Open) (rs : List Record) (hs : LineHistories) → is_done o.read ≡ true
    → settled al (o ∷ os) rs hs ≡ (let t = settled al os rs hs in record t { reads = o ∷ t.reads })
unfolding settled
done_is al o os rs hs d = rw d refl

chosen : {A : Type 0} (b : Bool) (x y : A) → b ≡ true → (if b then x else y) ≡ x
chosen b x y e = rw e refl

other : {A : Type 0} (b : Bool) (x y : A) → b ≡ false → (if b then x else y) ≡ y
other b x y e = rw e refl

first_more : (o : Open) (b : Bool) (x y : List Act) → (if b then x ++ y else began o.process ∷ (x ++ y)) ≡ (if b then x else began o.process ∷ x) ++ y
first_more o true x y = refl
first_more o false x y = refl

-- the read is done before the others come
first_done : (al : List AliasList) (o : Open) (os : List Open) (s : Served) (more : List Record) → is_done s.read ≡ true
    → settled al os (s.records ++ more) s.histories ≡ then_settled al (settled al os s.records s.histories) more
    → settled_by al o os (then_served o.process al s more) ≡ then_settled al (settled_by al o os s) more
first_done al o os s more e ih =
    let one : Open = record o { read = s.read; started = true } in
    let t : Settled = settled al os s.records s.histories in
    let u : Settled = settled al t.reads (t.records ++ more) t.histories in
    let f : Settled → Settled = λ x. record { reads = one ∷ x.reads; records = x.records; histories = x.histories; acts = first_acts o s.acts ++ x.acts } in
    let v : Served = record s { records = s.records ++ more } in
    let left : settled_by al o os (then_served o.process al s more) ≡ f (settled al os (s.records ++ more) s.histories) =
    ap (settled_by al o os) (chosen (is_done s.read) v _ e) ∙ chosen (is_done s.read) (f (settled al os (s.records ++ more) s.histories)) _ e in
    let now : settled_by al o os s ≡ f t = chosen (is_done s.read) (f t) _ e in
    let right : then_settled al (f t) more ≡ record { reads = one ∷ u.reads; records = u.records; histories = u.histories; acts = (first_acts o s.acts ++ t.acts) ++ u.acts } =
    ap (λ (x : Settled). let y : Settled = record x { acts = (first_acts o s.acts ++ t.acts) ++ x.acts } in y)
    (done_is al one t.reads (t.records ++ more) t.histories e) in
    left ∙ ap f ih ∙ ap (λ (acts : List Act). let y : Settled = record { reads = one ∷ u.reads; records = u.records; histories = u.histories; acts = acts } in y) (sym (append_assoc (first_acts o s.acts) t.acts u.acts))
    ∙ sym (ap (λ (x : Settled). then_settled al x more) now ∙ right)

-- or it goes on with them
goes_by : (al : List AliasList) (o : Open) (os : List Open) (acts : List Act) (t : Served) (b : Bool) → is_done t.read ≡ b
    → settled_by al o os (record t { acts = acts ++ t.acts }) ≡ (let u = settled_by al
    (record o { started = true }) os t in record u { acts = first_acts o acts ++ u.acts })
goes_by al o os acts t true f =
    let w : Settled = settled al os t.records t.histories in
    let one : Open = record o { read = t.read; started = true } in
    let g : List Act → Settled = λ xs. record { reads = one ∷ w.reads; records = w.records; histories = w.histories; acts = xs } in
    chosen (is_done t.read) (g (first_acts o (acts ++ t.acts) ++ w.acts)) _ f
    ∙ ap g (ap (λ (xs : List Act). xs ++ w.acts) (first_more o o.started acts t.acts) ∙ append_assoc (first_acts o acts) t.acts w.acts)
    ∙ sym (ap (λ (u : Settled). let y : Settled = record u { acts = first_acts o acts ++ u.acts } in y) (chosen (is_done t.read) (g (t.acts ++ w.acts)) _ f))
goes_by al o os acts t false f =
    let one : Open = record o { read = t.read; started = true } in
    let g : List Act → Settled = λ xs. record { reads = one ∷ os; records = t.records; histories = t.histories; acts = xs } in
    other (is_done t.read) _ (g (first_acts o (acts ++ t.acts))) f
    ∙ ap g (first_more o o.started acts t.acts)
    ∙ sym (ap (λ (u : Settled). let y : Settled = record u { acts = first_acts o acts ++ u.acts } in y) (other (is_done t.read) _ (g t.acts) f))

first_goes : (al : List AliasList) (o : Open) (os : List Open) (s : Served) (more : List Record) → is_done s.read ≡ false → s.records ≡ []
    → settled_by al o os (then_served o.process al s more) ≡ then_settled al (settled_by al o os s) more
first_goes al o os s more e none =
    let one : Open = record o { read = s.read; started = true } in
    let t : Served = served o.process al s.read more s.histories in
    let v : Settled = record { reads = one ∷ os; records = s.records; histories = s.histories; acts = first_acts o s.acts } in
    let left : settled_by al o os (then_served o.process al s more) ≡ settled_by al o os (record t { acts = s.acts ++ t.acts }) =
    ap (settled_by al o os) (other (is_done s.read) _ (record t { acts = s.acts ++ t.acts }) e) in
    let now : settled_by al o os s ≡ v = other (is_done s.read) _ v e in
    let right : then_settled al v more ≡ (let u = settled_by al one os t in record u { acts = first_acts o s.acts ++ u.acts }) =
    ap (λ (x : Settled). let y : Settled = record x { acts = first_acts o s.acts ++ x.acts } in y)
    (ap (λ (rs : List Record). settled al (one ∷ os) (rs ++ more) s.histories) none ∙ undone_is al one os more s.histories e) in
    left ∙ goes_by al o os s.acts t (is_done t.read) refl ∙ sym (ap (λ (x : Settled). then_settled al x more) now ∙ right)

undone_more : (al : List AliasList) (o : Open) (os : List Open) (rs more : List Record) (hs : LineHistories) (b : Bool) → is_done o.read ≡ false
    → is_done (served o.process al o.read rs hs).read ≡ b → is_line_or_done o.read ≡ true
    → (let s = served o.process al o.read rs hs in settled al os (s.records ++ more) s.histories ≡ then_settled al (settled al os s.records s.histories) more)
    → settled al (o ∷ os) (rs ++ more) hs ≡ then_settled al (settled al (o ∷ os) rs hs) more
undone_more al o os rs more hs true d e l ih =
    undone_is al o os (rs ++ more) hs d ∙ ap (settled_by al o os) (read_more o.process al o.read rs more hs l d)
    ∙ first_done al o os (served o.process al o.read rs hs) more e ih ∙ sym (ap (λ (x : Settled). then_settled al x more) (undone_is al o os rs hs d))
undone_more al o os rs more hs false d e l ih =
    undone_is al o os (rs ++ more) hs d ∙ ap (settled_by al o os) (read_more o.process al o.read rs more hs l d)
    ∙ first_goes al o os (served o.process al o.read rs hs) more e (none_left o.process al o.read rs hs d e)
    ∙ sym (ap (λ (x : Settled). then_settled al x more) (undone_is al o os rs hs d))

open_more : (al : List AliasList) (o : Open) (os : List Open) (rs more : List Record) (hs : LineHistories) (b : Bool) → is_done o.read ≡ b
    → is_line_or_done o.read ≡ true
    → settled al os (rs ++ more) hs ≡ then_settled al (settled al os rs hs) more
    → (let s = served o.process al o.read rs hs in settled al os (s.records ++ more) s.histories ≡ then_settled al (settled al os s.records s.histories) more)
    → settled al (o ∷ os) (rs ++ more) hs ≡ then_settled al (settled al (o ∷ os) rs hs) more
open_more al o os rs more hs true d l now later = done_more al o os rs more hs d now
open_more al o os rs more hs false d l now later = undone_more al o os rs more hs (is_done (served o.process al o.read rs hs).read) d refl l later

pub settled_more : (al : List AliasList) (os : List Open) (rs more : List Record) (hs : LineHistories) → AreLines os
    → settled al os (rs ++ more) hs ≡ then_settled al (settled al os rs hs) more
unfolding settled
settled_more al [] rs more hs l = refl
settled_more al (o ∷ os) rs more hs l =
    let s = served o.process al o.read rs hs in
    open_more al o os rs more hs (is_done o.read) refl l.0 (settled_more al os rs more hs l.1) (settled_more al os s.records more s.histories l.1)

-- ---- the console

-- what shows looks at neither reads, records nor histories
abbrev queued : State → List Open → List Record → LineHistories → State
queued s os rs hs = record s { reads = os; records = rs; histories = hs }

or_queued : (b : Bool) (x y : State) (os : List Open) (rs : List Record) (hs : LineHistories)
    → (if b then queued x os rs hs else queued y os rs hs) ≡ queued (if b then x else y) os rs hs
or_queued true x y os rs hs = refl
or_queued false x y os rs hs = refl

shown_queued : (s : State) (os : List Open) (rs : List Record) (hs : LineHistories) (n : Option Noted) (old new : Cooked)
    → line_shown (queued s os rs hs) n old new ≡ queued (line_shown s n old new) os rs hs
shown_queued s os rs hs None old new = refl
shown_queued s os rs hs (Some n) old new = or_queued (shows_line s.buffers n) _ s os rs hs

finished_queued : (s : State) (os : List Open) (rs : List Record) (hs : LineHistories) (n : Option Noted) (len : ℕ)
    → line_finished (queued s os rs hs) n len ≡ queued (line_finished s n len) os rs hs
finished_queued s os rs hs None len = refl
finished_queued s os rs hs (Some n) len = or_queued (shows_line s.buffers n) _ s os rs hs

followed_queued : (s : State) (os : List Open) (rs : List Record) (hs : LineHistories) (a : Act)
    → followed (queued s os rs hs) a ≡ queued (followed s a) os rs hs
followed_queued s os rs hs (began p) = refl
followed_queued s os rs hs (typed p old new) = shown_queued s os rs hs (noted_of s.noted p) old new
followed_queued s os rs hs (passed p) = refl
followed_queued s os rs hs (ended p read len) = finished_queued s os rs hs (noted_of s.noted p) len
followed_queued s os rs hs (woke p line) = refl

all_queued : (s : State) (os : List Open) (rs : List Record) (hs : LineHistories) (acts : List Act)
    → fold followed (queued s os rs hs) acts ≡ queued (fold followed s acts) os rs hs
all_queued s os rs hs [] = refl
all_queued s os rs hs (a ∷ acts) = ap (λ (t : State). fold followed t acts) (followed_queued s os rs hs a) ∙ all_queued (followed s a) os rs hs acts

abbrev pub pushed : State → List Record → State
pushed s rs = record s { records = s.records ++ rs }

record Queue : Type 0 where
  aliases : List AliasList
  reads : List Open
  records : List Record
  histories : LineHistories

abbrev queue : State → Queue
queue s = record { aliases = s.aliases; reads = s.reads; records = s.records; histories = s.histories }

abbrev settled_of : Queue → Settled
settled_of q = settled q.aliases q.reads q.records q.histories

-- records that come once the others were served
pub pushed_settled : (s : State) (more : List Record) → AreLines s.reads → settled_state (pushed (settled_state s) more) ≡ settled_state (pushed s more)
unfolding settled_state
pushed_settled s more l =
    let t : Settled = settled s.aliases s.reads s.records s.histories in
    let u : Settled = settled s.aliases t.reads (t.records ++ more) t.histories in
    let x : State = settled_state s in
    let same : queue (pushed x more) ≡ record { aliases = s.aliases; reads = t.reads; records = t.records ++ more; histories = t.histories } =
    ap (λ (y : State). queue (pushed y more)) (settled_shows s).is in
    let here : settled_from (pushed x more) u ≡ fold followed (fold followed (queued s u.reads u.records u.histories) t.acts) u.acts =
    ap (λ (y : State). fold followed y u.acts) (sym (all_queued (queued s t.reads t.records t.histories) u.reads u.records u.histories t.acts)) in
    ap (λ (q : Queue). settled_from (pushed x more) (settled_of q)) same ∙ here
    ∙ sym (fold-append followed (queued s u.reads u.records u.histories) t.acts u.acts)
    ∙ sym (ap (settled_from s) (settled_more s.aliases s.reads s.records more s.histories l))

-- ---- reads stay of lines, or done

on_lines : (p : ℕ) (al : List AliasList) (line line' : Cooked) (rs : List Record) (hs : LineHistories) (later : Served) (masked returned : Bool)
    → is_line_or_done later.read ≡ true
    → is_line_or_done (served_on p al line line' rs hs later masked returned).read ≡ true
on_lines p al line line' rs hs later true returned ih = refl
on_lines p al line line' rs hs later false true ih = refl
on_lines p al line line' rs hs later false false ih = ih

line_lines : (p : ℕ) (al : List AliasList) (line : Cooked) (rs : List Record) (hs : LineHistories) → is_line_or_done (served_line p al line rs hs).read ≡ true
line_lines p al line [] hs = refl
line_lines p al line (r ∷ rs) hs =
    on_lines p al line (line_after line r hs) rs hs (served_line p al (line_after line r hs) rs hs) (is_masked line.mask r) (is_return (key_of r))
    (line_lines p al (line_after line r hs) rs hs)

read_lines : (p : ℕ) (al : List AliasList) (r : OpenRead) (rs : List Record) (hs : LineHistories) → is_line_or_done r ≡ true
    → is_line_or_done (served p al r rs hs).read ≡ true
unfolding served
read_lines p al (reads.Line line) rs hs l = line_lines p al line rs hs
read_lines p al (reads.Done a) rs hs l = refl
read_lines p al (reads.Units n) rs hs l = absurd (true≢false (sym l))
read_lines p al (reads.Records n) rs hs l = absurd (true≢false (sym l))

lines_or : (b : Bool) (x y : Settled) → AreLines x.reads → AreLines y.reads → AreLines (if b then x else y).reads
lines_or true x y h k = h
lines_or false x y h k = k

lines_settled : (al : List AliasList) (os : List Open) (rs : List Record) (hs : LineHistories) → AreLines os → AreLines (settled al os rs hs).reads
unfolding settled
lines_settled al [] rs hs l = tt
lines_settled al (o ∷ os) rs hs l =
    let s = served o.process al o.read rs hs in
    let one : Open = record o { read = s.read; started = true } in
    let t : Settled = settled al os s.records s.histories in
    let is : is_line_or_done s.read ≡ true = read_lines o.process al o.read rs hs l.0 in
    lines_or (is_done o.read) (let x = settled al os rs hs in record x { reads = o ∷ x.reads }) _ (l.0, lines_settled al os rs hs l.1)
    (lines_or (is_done s.read) (record { reads = one ∷ t.reads; records = t.records; histories = t.histories; acts = first_acts o s.acts ++ t.acts })
    (record { reads = one ∷ os; records = s.records; histories = s.histories; acts = first_acts o s.acts })
    (is, lines_settled al os s.records s.histories l.1) (is, l.1))

pub state_lines : (s : State) → AreLines s.reads → AreLines (settled_state s).reads
state_lines s l = subst (λ (os : List Open). AreLines os) (sym (ap (λ (t : State). t.reads) (settled_shows s).is))
    (lines_settled s.aliases s.reads s.records s.histories l)

aborted_at : (os : List Open) (k : ℕ) → AreLines os → AreLines (changed_at (failed code.Aborted) os k)
aborted_at [] k d = tt
aborted_at (o ∷ os) zero d = (refl, d.1)
aborted_at (o ∷ os) (suc k) d = (d.0, aborted_at os k d.1)

pub aborted_lines : (os : List Open) → AreLines os → AreLines (line_aborted os)
aborted_lines os l = aborted_at os (position_or_len is_open_line os) l
