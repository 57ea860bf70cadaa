-- Which steps of serving a masked control made, by what was done for a read.
use Rattle.std.proofs.Common.{◌≡◌, ◌==◌, ◌||◌, ℕ, Bool, true, false, List, [], ◌∷◌, ◌++◌, refl, ap, ◌∙◌, sym, subst}
use Rattle.std.specs.Prelude.{if◌then◌else◌}
use Rattle.std.specs.List.{list_any}
use Rattle.std.proofs.lemmas.Bool.{or_parts, eqb-true}
use Rattle.con_alias.specs.Aliases.{AliasList}
use Rattle.con_cooked.specs.Cooked.{is_return}
use Rattle.con_cooked.specs.Keys.{key_of}
use Rattle.con_cooked.specs.Mask.{is_masked}
use Rattle.con_cooked.specs.declared.cooked.Cooked.{Cooked}
use Rattle.con_history.specs.Histories.{LineHistories}
use Rattle.con_readers.specs.Act.{Act}
use Rattle.con_readers.specs.Words.Lines.{line_after}
use Rattle.con_readers.specs.Pieces.{front}
use Rattle.con_readers.specs.Reads.{settled, is_open}
use Rattle.con_readers.specs.Words.Reads.{first_acts}
use Rattle.con_readers.specs.Serving.{Served as Serving, is_done, given_units, served, served_line}
use Rattle.con_readers.specs.Words.Serving.{served_on}
use Rattle.con_readers.specs.Wants.{units_of}
use Rattle.con_readers.specs.declared.open.Open.{Open}
use Rattle.con_readers.specs.declared.open.OpenRead.{OpenRead}
use Rattle.con_readers.specs.declared.open.OpenRead.TheVariants as reads
use Rattle.con_records.specs.declared.record.Record.{Record}
use Rattle.con_laws.specs.Fates.{How, Served, Emptied, Interrupted, CutOff, Piece}
use Rattle.con_laws.specs.Walks.{Begins, by_read, taken_by}
use Rattle.con_laws.specs.AnswerWalks.{by_how, read_after}
use Rattle.con_laws.proofs.Served.{Alone, alone}
use Rattle.con_laws.proofs.Mine.{Apart, own, own_none, own_more, none_taken, Choose, Mine}
use Rattle.con_laws.proofs.Woken.{woke_of}

or_assoc : (a b c : Bool) → (a || (b || c)) ≡ ((a || b) || c)
or_assoc true b c = refl
or_assoc false b c = refl

or_none : (b : Bool) → (b || false) ≡ b
or_none true = refl
or_none false = refl

any-append : (p : ℕ) (xs ys : List Act) → list_any (woke_of p) (xs ++ ys) ≡ (list_any (woke_of p) xs || list_any (woke_of p) ys)
any-append p [] ys = refl
any-append p (x ∷ xs) ys = ap (λ (b : Bool). woke_of p x || b) (any-append p xs ys) ∙ or_assoc (woke_of p x) (list_any (woke_of p) xs) (list_any (woke_of p) ys)

-- ---- whose steps they are

on_foreign : (p q : ℕ) (al : List AliasList) (line line' : Cooked) (rs : List Record) (hs : LineHistories) (later : Serving) (masked returned : Bool) → (q == p) ≡ false → list_any (woke_of p) later.acts ≡ false
    → list_any (woke_of p) (served_on q al line line' rs hs later masked returned).acts ≡ false
unfolding woke_of
on_foreign p q al line line' rs hs later true returned other h = ap (λ (b : Bool). b || false) other
on_foreign p q al line line' rs hs later false true other h = refl
on_foreign p q al line line' rs hs later false false other h = h

line_foreign : (p q : ℕ) (al : List AliasList) (line : Cooked) (rs : List Record) (hs : LineHistories) → (q == p) ≡ false → list_any (woke_of p) (served_line q al line rs hs).acts ≡ false
line_foreign p q al line [] hs other = refl
line_foreign p q al line (r ∷ rs) hs other =
    on_foreign p q al line (line_after line r hs) rs hs (served_line q al (line_after line r hs) rs hs) (is_masked line.mask r) (is_return (key_of r)) other
    (line_foreign p q al (line_after line r hs) rs hs other)

units_plain : (p q n : ℕ) (rs : List Record) (hs : LineHistories) (us : List ℕ) → list_any (woke_of p) (given_units q n rs hs us).acts ≡ false
unfolding woke_of
units_plain p q n rs hs [] = refl
units_plain p q n rs hs (u ∷ us) = refl

-- a read of units, and one of records, is woken by none
plain_units : (p q n : ℕ) (al : List AliasList) (rs : List Record) (hs : LineHistories) → list_any (woke_of p) (served q al (reads.Units n) rs hs).acts ≡ false
unfolding served
plain_units p q n al [] hs = refl
plain_units p q n al (r ∷ rs) hs = units_plain p q n (r ∷ rs) hs (units_of n (r ∷ rs))

plain_records : (p q n : ℕ) (al : List AliasList) (rs : List Record) (hs : LineHistories) → list_any (woke_of p) (served q al (reads.Records n) rs hs).acts ≡ false
unfolding served woke_of
plain_records p q n al [] hs = refl
plain_records p q n al (r ∷ rs) hs = refl

foreign : (p q : ℕ) (al : List AliasList) (read : OpenRead) (rs : List Record) (hs : LineHistories) → (q == p) ≡ false → list_any (woke_of p) (served q al read rs hs).acts ≡ false
unfolding served
foreign p q al (reads.Line line) rs hs other = line_foreign p q al line rs hs other
foreign p q al (reads.Units n) rs hs other = plain_units p q n al rs hs
foreign p q al (reads.Records n) rs hs other = plain_records p q n al rs hs
foreign p q al (reads.Done a) rs hs other = refl

same_acts : (p : ℕ) (al : List AliasList) (read : OpenRead) (rs : List Record) (hs : LineHistories) → list_any (woke_of p) (served p al read (front rs (served p al read rs hs).records) hs).acts ≡ list_any (woke_of p) (served p al read rs hs).acts
unfolding served Alone
same_acts p al (reads.Line line) rs hs = ap (λ (x : Serving). list_any (woke_of p) x.acts) (alone p al line rs hs)
same_acts p al (reads.Units n) rs hs = plain_units p p n al (front rs (served p al (reads.Units n) rs hs).records) hs ∙ sym (plain_units p p n al rs hs)
same_acts p al (reads.Records n) rs hs = plain_records p p n al (front rs (served p al (reads.Records n) rs hs).records) hs ∙ sym (plain_records p p n al rs hs)
same_acts p al (reads.Done a) rs hs = refl

first_same : (p : ℕ) (o : Open) (acts : List Act) (b : Bool) → o.started ≡ b → list_any (woke_of p) (first_acts o acts) ≡ list_any (woke_of p) acts
unfolding woke_of
first_same p o acts true e = rw e refl
first_same p o acts false e = rw e refl

-- ---- by what was done for a read

unfoldable pub wakes_one : ℕ → OpenRead → How → List Record → Bool
wakes_one p r (Served hs al) rs = list_any (woke_of p) (served p al r rs hs).acts
wakes_one p r Emptied rs = false
wakes_one p r Interrupted rs = false
wakes_one p r CutOff rs = false

unfoldable pub wakes : ℕ → OpenRead → List Piece → Bool
wakes p r [] = false
wakes p r (x ∷ xs) = wakes_one p r x.0.how x.1 || wakes p (by_how p r x.0.how x.1) xs

pub wakes-append : (p : ℕ) (r : OpenRead) (xs ys : List Piece) → wakes p r (xs ++ ys) ≡ (wakes p r xs || wakes p (read_after p r xs) ys)
unfolding wakes
wakes-append p r [] ys = refl
wakes-append p r (x ∷ xs) ys = ap (λ (b : Bool). wakes_one p r x.0.how x.1 || b) (wakes-append p (by_how p r x.0.how x.1) xs ys) ∙ or_assoc (wakes_one p r x.0.how x.1) (wakes p (by_how p r x.0.how x.1) xs) (wakes p (read_after p (by_how p r x.0.how x.1) xs) ys)

pub wakes_none : (p : ℕ) (r : OpenRead) (xs : List Piece) → xs ≡ [] → wakes p r xs ≡ false
unfolding wakes
wakes_none p r xs e = ap (wakes p r) e

acts_by : (al : List AliasList) (o : Open) (os : List Open) (rs : List Record) (hs : LineHistories) (p : ℕ) (a b : Bool) → is_done o.read ≡ a → is_done (served o.process al o.read rs hs).read ≡ b → (c d : Bool)
    → list_any (woke_of p) (settled al os rs hs).acts ≡ d → list_any (woke_of p) (settled al os (served o.process al o.read rs hs).records (served o.process al o.read rs hs).histories).acts ≡ c
    → list_any (woke_of p) (settled al (o ∷ os) rs hs).acts ≡ (if a then d else if b then (list_any (woke_of p) (served o.process al o.read rs hs).acts || c) else list_any (woke_of p) (served o.process al o.read rs hs).acts)
unfolding settled
acts_by al o os rs hs p true b e f c d now later = rw e now
acts_by al o os rs hs p false true e f c d now later =
    let s = served o.process al o.read rs hs in
    let t = settled al os s.records s.histories in
    rw (e, f) (any-append p (first_acts o s.acts) t.acts ∙ ap (λ (x : Bool). x || list_any (woke_of p) t.acts) (first_same p o s.acts o.started refl) ∙ ap (λ (x : Bool). list_any (woke_of p) s.acts || x) later)
acts_by al o os rs hs p false false e f c d now later =
    let s = served o.process al o.read rs hs in
    rw (e, f) (first_same p o s.acts o.started refl)

none_of : (a b x : Bool) → x ≡ false → (if a then false else if b then (x || false) else x) ≡ false
none_of true b x h = refl
none_of false true x h = ap (λ (c : Bool). c || false) h
none_of false false x h = h

-- a process without a read is woken by none
none_woke : (al : List AliasList) (os : List Open) (rs : List Record) (hs : LineHistories) (p : ℕ) → is_open os p ≡ false → list_any (woke_of p) (settled al os rs hs).acts ≡ false
unfolding settled
none_woke al [] rs hs p none = refl
none_woke al (o ∷ os) rs hs p none =
    let parts = or_parts (o.process == p) (is_open os p) none in
    let s = served o.process al o.read rs hs in
    acts_by al o os rs hs p (is_done o.read) (is_done s.read) refl refl false false (none_woke al os rs hs p parts.1) (none_woke al os s.records s.histories p parts.1)
    ∙ none_of (is_done o.read) (is_done s.read) (list_any (woke_of p) s.acts) (foreign p o.process al o.read rs hs parts.0)

Wakes : Begins → List AliasList → List Open → List Record → LineHistories → ℕ → OpenRead → Type 0
Wakes begins al os rs hs p r = list_any (woke_of p) (settled al os rs hs).acts ≡ wakes p r (own begins p (taken_by begins al os rs hs))

by_process : (p q : ℕ) (al : List AliasList) (read : OpenRead) (rs : List Record) (hs : LineHistories) → q ≡ p → list_any (woke_of p) (served p al read (front rs (served q al read rs hs).records) hs).acts ≡ list_any (woke_of p) (served q al read rs hs).acts
by_process p q al read rs hs e = subst (λ (n : ℕ). list_any (woke_of p) (served p al read (front rs (served n al read rs hs).records) hs).acts ≡ list_any (woke_of p) (served n al read rs hs).acts) (sym e) (same_acts p al read rs hs)

one_wakes : (p : ℕ) (r : OpenRead) (x : Piece) (xs : List Piece) → xs ≡ [] → wakes p r (x ∷ xs) ≡ (wakes_one p r x.0.how x.1 || false)
unfolding wakes
one_wakes p r x xs e = ap (λ (ys : List Piece). wakes p r (x ∷ ys)) e

own_wakes : (begins : Begins) → Apart begins → (al : List AliasList) (o : Open) (os : List Open) (rs : List Record) (hs : LineHistories) (p : ℕ) (a b : Bool) → (o.process == p) ≡ true → is_done o.read ≡ a → is_done (served o.process al o.read rs hs).read ≡ b
    → is_open os p ≡ false → wakes p o.read (own begins p (taken_by begins al (o ∷ os) rs hs)) ≡ (if a then false else if b then (list_any (woke_of p) (served o.process al o.read rs hs).acts || false) else list_any (woke_of p) (served o.process al o.read rs hs).acts)
unfolding taken_by wakes_one
own_wakes begins sure al o os rs hs p true b m e d none = rw e (wakes_none p o.read (own begins p (taken_by begins al os rs hs)) (none_taken begins sure al os rs hs p none))
own_wakes begins sure al o os rs hs p false true m e d none =
    let s = served o.process al o.read rs hs in
    let x : Piece = by_read begins (Served hs al) o.process (front rs s.records) in
    let ps : List Piece = taken_by begins al os s.records s.histories in
    rw (e, d) (ap (wakes p o.read) (own_more begins sure p o.process (Served hs al) (front rs s.records) ps true m) ∙ one_wakes p o.read x (own begins p ps) (none_taken begins sure al os s.records s.histories p none)
    ∙ ap (λ (c : Bool). c || false) (by_process p o.process al o.read rs hs (eqb-true o.process p m)))
own_wakes begins sure al o os rs hs p false false m e d none =
    let s = served o.process al o.read rs hs in
    let x : Piece = by_read begins (Served hs al) o.process (front rs s.records) in
    rw (e, d) (ap (wakes p o.read) (own_more begins sure p o.process (Served hs al) (front rs s.records) [] true m) ∙ one_wakes p o.read x (own begins p []) (own_none begins p)
    ∙ or_none (list_any (woke_of p) (served p al o.read (front rs s.records) hs).acts) ∙ by_process p o.process al o.read rs hs (eqb-true o.process p m))

other_wakes : (begins : Begins) → Apart begins → (al : List AliasList) (o : Open) (os : List Open) (rs : List Record) (hs : LineHistories) (p : ℕ) (r : OpenRead) (a b x : Bool) → (o.process == p) ≡ false → is_done o.read ≡ a → is_done (served o.process al o.read rs hs).read ≡ b → x ≡ false
    → (if a then wakes p r (own begins p (taken_by begins al os rs hs)) else if b then (x || wakes p r (own begins p (taken_by begins al os (served o.process al o.read rs hs).records (served o.process al o.read rs hs).histories))) else x) ≡ wakes p r (own begins p (taken_by begins al (o ∷ os) rs hs))
unfolding taken_by
other_wakes begins sure al o os rs hs p r true b x m e d none = rw e refl
other_wakes begins sure al o os rs hs p r false true x m e d none =
    let s = served o.process al o.read rs hs in
    let ps : List Piece = taken_by begins al os s.records s.histories in
    rw (e, d) (ap (λ (c : Bool). c || wakes p r (own begins p ps)) none ∙ ap (wakes p r) (sym (own_more begins sure p o.process (Served hs al) (front rs s.records) ps false m)))
other_wakes begins sure al o os rs hs p r false false x m e d none =
    let s = served o.process al o.read rs hs in
    rw (e, d) (none ∙ sym (wakes_none p r (own begins p (by_read begins (Served hs al) o.process (front rs s.records) ∷ [])) (own_more begins sure p o.process (Served hs al) (front rs s.records) [] false m ∙ own_none begins p)))

wakes_by : (begins : Begins) → Apart begins → (al : List AliasList) (o : Open) (os : List Open) (rs : List Record) (hs : LineHistories) (p : ℕ) (r : OpenRead) (m : Bool) → (o.process == p) ≡ m
    → (Mine p r os → Wakes begins al os rs hs p r) → (Mine p r os → Wakes begins al os (served o.process al o.read rs hs).records (served o.process al o.read rs hs).histories p r) → Choose m ((o.read ≡ r) × (is_open os p ≡ false)) (Mine p r os) → Wakes begins al (o ∷ os) rs hs p r
unfolding Choose Wakes
wakes_by begins sure al o os rs hs p r true m now later mine =
    let s = served o.process al o.read rs hs in
    subst (λ (x : OpenRead). list_any (woke_of p) (settled al (o ∷ os) rs hs).acts ≡ wakes p x (own begins p (taken_by begins al (o ∷ os) rs hs))) mine.0
    (acts_by al o os rs hs p (is_done o.read) (is_done s.read) refl refl false false (none_woke al os rs hs p mine.1) (none_woke al os s.records s.histories p mine.1)
    ∙ sym (own_wakes begins sure al o os rs hs p (is_done o.read) (is_done s.read) m refl refl mine.1))
wakes_by begins sure al o os rs hs p r false m now later mine =
    let s = served o.process al o.read rs hs in
    acts_by al o os rs hs p (is_done o.read) (is_done s.read) refl refl (wakes p r (own begins p (taken_by begins al os s.records s.histories))) (wakes p r (own begins p (taken_by begins al os rs hs))) (now mine) (later mine)
    ∙ other_wakes begins sure al o os rs hs p r (is_done o.read) (is_done s.read) (list_any (woke_of p) s.acts) m refl refl (foreign p o.process al o.read rs hs m)

pub settled_wakes : (begins : Begins) → Apart begins → (al : List AliasList) (os : List Open) (rs : List Record) (hs : LineHistories) (p : ℕ) (r : OpenRead) → Mine p r os → list_any (woke_of p) (settled al os rs hs).acts ≡ wakes p r (own begins p (taken_by begins al os rs hs))
unfolding Wakes Mine settled taken_by
settled_wakes begins sure al [] rs hs p r mine = sym (wakes_none p r (own begins p []) (own_none begins p))
settled_wakes begins sure al (o ∷ os) rs hs p r mine =
    let s = served o.process al o.read rs hs in
    wakes_by begins sure al o os rs hs p r (o.process == p) refl (settled_wakes begins sure al os rs hs p r) (settled_wakes begins sure al os s.records s.histories p r) mine
