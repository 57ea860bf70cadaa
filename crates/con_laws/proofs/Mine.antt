-- What becomes of the one open read of a process, by what is done for it.
use Rattle.std.proofs.Common.{◌≡◌, ◌==◌, ◌+◌, ◌||◌, ℕ, Bool, true, false, not, cond, List, [], ◌∷◌, ◌++◌, zero, suc, refl, ap, ◌∙◌, sym, subst, Option, None, Some, slice_get, true≢false, arith}
use Rattle.std.specs.List.{remove, position_or_len}
use Rattle.std.proofs.lemmas.Bool.{or_parts, eqb-true, eq-eqb}
use Rattle.std.proofs.lemmas.List.Sums.{fold-append}
use Rattle.con_units.specs.Units.{changed_at}
use Rattle.con_units.specs.declared.code.Code.TheVariants as code
use Rattle.con_alias.specs.Aliases.{AliasList}
use Rattle.con_history.specs.Histories.{LineHistories}
use Rattle.con_readers.specs.Pieces.{front}
use Rattle.con_readers.specs.Reads.{settled, all_closed, failed, line_aborted, is_open_line, is_open, place_of, without, begun}
use Rattle.con_readers.specs.Words.Reads.{closed_one}
use Rattle.con_readers.specs.Serving.{is_done, is_line, served}
use Rattle.con_readers.specs.declared.answer.Answer.TheVariants as answers
use Rattle.con_readers.specs.declared.open.Open.{Open}
use Rattle.con_readers.specs.declared.open.OpenRead.{OpenRead}
use Rattle.con_readers.specs.declared.open.OpenRead.TheVariants as reads
use Rattle.con_records.specs.declared.record.Record.{Record}
use Rattle.con_laws.specs.Fates.{How, Served, Emptied, Interrupted, CutOff, Piece, is_taker}
use Rattle.con_laws.specs.Walks.{Begin, Begins, read_of, by_read, taken_by, interrupted, cut_off}
use Rattle.con_laws.specs.AnswerWalks.{by_how, done_to, read_after}
use Rattle.con_laws.proofs.FateLists.{log, log-append}
use Rattle.con_laws.proofs.Served.{UnitsPiece, IsProper, TakesAll, same_alone, takes_all, still_proper}

-- ---- the last Begins, and what is done for each

-- no two processes' last Begins stand at one place
pub record Apart (begins : Begins) : Type 0 where
  pub apart : (p q : ℕ) (b c : Begin) → begins p ≡ Some b → begins q ≡ Some c → (c.place == b.place) ≡ true → q ≡ p

place_or : Option Begin → ℕ
place_or None = 0
place_or (Some b) = b.place

none_some : (b : Begin) → Option Begin → None ≡ Some b → ⊥
none_some b o h = cc

same_taker : (begins : Begins) → Apart begins → (p q : ℕ) (m n : Option Begin) (e : Bool) → begins p ≡ m → begins q ≡ n → (q == p) ≡ e → is_taker (read_of p m) (read_of q n) ≡ e
unfolding place_or
same_taker begins sure p q None None e bp bq h = h
same_taker begins sure p q None (Some c) true bp bq h = absurd (none_some c None (sym bp ∙ sym (ap begins (eqb-true q p h)) ∙ bq))
same_taker begins sure p q None (Some c) false bp bq h = refl
same_taker begins sure p q (Some b) None true bp bq h = absurd (none_some b None (sym bq ∙ ap begins (eqb-true q p h) ∙ bp))
same_taker begins sure p q (Some b) None false bp bq h = refl
same_taker begins sure p q (Some b) (Some c) true bp bq h = eq-eqb c.place b.place (ap place_or (sym bq ∙ ap begins (eqb-true q p h) ∙ bp))
same_taker begins sure p q (Some b) (Some c) false bp bq h = by (c.place == b.place) refl
  where
    by : (t : Bool) → (c.place == b.place) ≡ t → t ≡ false
    by false e = refl
    by true e = absurd (true≢false (sym (eq-eqb q p (sure.apart p q b c bp bq e)) ∙ h))

-- what is done for a process's read
unfoldable pub own : Begins → ℕ → List Piece → List Piece
own begins p ps = log (read_of p (begins p)) ps

pub own-append : (begins : Begins) (p : ℕ) (ps qs : List Piece) → own begins p (ps ++ qs) ≡ own begins p ps ++ own begins p qs
unfolding own
own-append begins p ps qs = log-append (read_of p (begins p)) ps qs

pub own_none : (begins : Begins) (p : ℕ) → own begins p [] ≡ []
unfolding own log
own_none begins p = refl

pub own_more : (begins : Begins) → Apart begins → (p q : ℕ) (how : How) (rs : List Record) (ps : List Piece) (m : Bool) → (q == p) ≡ m → own begins p (by_read begins how q rs ∷ ps) ≡ cond m (by_read begins how q rs ∷ own begins p ps) (own begins p ps)
unfolding own log
own_more begins sure p q how rs ps m e = ap (λ (b : Bool). cond b (by_read begins how q rs ∷ log (read_of p (begins p)) ps) (log (read_of p (begins p)) ps)) (same_taker begins sure p q (begins p) (begins q) m refl refl e)

-- ---- what is done fits the read

unfoldable pub Fits : ℕ → OpenRead → How → List Record → Type 0
Fits p r (Served hs al) rs = (is_done r ≡ false) × TakesAll p al r rs hs
Fits p r Emptied rs = ⊥
Fits p r Interrupted rs = (is_line r ≡ true) × (rs ≡ [])
Fits p r CutOff rs = (is_done r ≡ false) × (rs ≡ [])

unfoldable pub Right : ℕ → OpenRead → List Piece → Type 0
Right p r [] = Unit {0}
Right p r (x ∷ xs) = Fits p r x.0.how x.1 × Right p (by_how p r x.0.how x.1) xs

pub right-append : (p : ℕ) (r : OpenRead) (xs ys : List Piece) → Right p r xs → Right p (read_after p r xs) ys → Right p r (xs ++ ys)
unfolding Right
right-append p r [] ys h g = g
right-append p r (x ∷ xs) ys h g = (h.0, right-append p (by_how p r x.0.how x.1) xs ys h.1 g)

done_fits : (p : ℕ) (r : OpenRead) (how : How) (rs : List Record) → is_done r ≡ true → Fits p r how rs → ⊥
unfolding Fits
done_fits p r (Served hs al) rs d h = true≢false (sym d ∙ h.0)
done_fits p r Emptied rs d h = h
done_fits p (reads.Line line) Interrupted rs d h = true≢false (sym d)
done_fits p (reads.Units n) Interrupted rs d h = true≢false (sym d)
done_fits p (reads.Records n) Interrupted rs d h = true≢false (sym d)
done_fits p (reads.Done a) Interrupted rs d h = true≢false (sym h.0)
done_fits p r CutOff rs d h = true≢false (sym d ∙ h.0)

-- nothing more is done for a read that is done
pub done_rest : (p : ℕ) (r : OpenRead) (xs : List Piece) → is_done r ≡ true → Right p r xs → xs ≡ []
unfolding Right
done_rest p r [] d h = refl
done_rest p r (x ∷ xs) d h = absurd (done_fits p r x.0.how x.1 d h.0)

proper_one : (p : ℕ) (r : OpenRead) (how : How) (rs : List Record) → IsProper r → IsProper (by_how p r how rs)
unfolding IsProper
proper_one p r (Served hs al) rs h = still_proper p al r rs hs h
proper_one p r Emptied rs h = h
proper_one p r Interrupted rs h = tt
proper_one p r CutOff rs h = tt

pub proper_after : (p : ℕ) (r : OpenRead) (xs : List Piece) → IsProper r → IsProper (read_after p r xs)
proper_after p r [] h = h
proper_after p r (x ∷ xs) h = proper_after p (by_how p r x.0.how x.1) xs (proper_one p r x.0.how x.1 h)

-- ---- the one read of a process

unfoldable pub Choose : Bool → Type 0 → Type 0 → Type 0
Choose true A B = A
Choose false A B = B

-- a process has one read at most, and that is r
unfoldable pub Mine : ℕ → OpenRead → List Open → Type 0
Mine p r [] = Unit {0}
Mine p r (o ∷ os) = Choose (o.process == p) ((o.read ≡ r) × (is_open os p ≡ false)) (Mine p r os)

-- after what was done for it
unfoldable pub Becomes : ℕ → OpenRead → List Piece → List Open → Type 0
Becomes p r xs os = Right p r xs × Mine p (read_after p r xs) os

pub none_mine : (p : ℕ) (r : OpenRead) (os : List Open) → is_open os p ≡ false → Mine p r os
unfolding Mine Choose
none_mine p r [] none = tt
none_mine p r (o ∷ os) none = let parts = or_parts (o.process == p) (is_open os p) none in rw parts.0 (none_mine p r os parts.1)

-- nothing was done
pub nothing_done : (begins : Begins) (p : ℕ) (r : OpenRead) (os : List Open) (ps : List Piece) → own begins p ps ≡ [] → Mine p r os → Becomes p r (own begins p ps) os
unfolding Becomes Right
nothing_done begins p r os ps e mine = rw e (tt, mine)

-- one thing was done
one_done : (begins : Begins) → Apart begins → (p q : ℕ) (r : OpenRead) (how : How) (rs : List Record) (os : List Open) (ps : List Piece) → (q == p) ≡ true → own begins p ps ≡ [] → Fits p r how rs → Mine p (by_how p r how rs) os → Becomes p r (own begins p (by_read begins how q rs ∷ ps)) os
unfolding Becomes Right
one_done begins sure p q r how rs os ps e none fits mine = rw (own_more begins sure p q how rs ps true e, none) ((fits, tt), mine)

-- it was done for another process
other_done : (begins : Begins) → Apart begins → (p q : ℕ) (r : OpenRead) (how : How) (rs : List Record) (os : List Open) (ps : List Piece) → (q == p) ≡ false → Becomes p r (own begins p ps) os → Becomes p r (own begins p (by_read begins how q rs ∷ ps)) os
other_done begins sure p q r how rs os ps e h = subst (λ (xs : List Piece). Becomes p r xs os) (sym (own_more begins sure p q how rs ps false e)) h

-- a read before the others
first_mine : (p : ℕ) (r : OpenRead) (o : Open) (os : List Open) → (o.process == p) ≡ true → o.read ≡ r → is_open os p ≡ false → Mine p r (o ∷ os)
unfolding Mine Choose
first_mine p r o os e is none = rw e (is, none)

later_mine : (p : ℕ) (r : OpenRead) (o : Open) (os : List Open) → (o.process == p) ≡ false → Mine p r os → Mine p r (o ∷ os)
unfolding Mine Choose
later_mine p r o os e mine = rw e mine

later_becomes : (p : ℕ) (r : OpenRead) (xs : List Piece) (o : Open) (os : List Open) → (o.process == p) ≡ false → Becomes p r xs os → Becomes p r xs (o ∷ os)
unfolding Becomes
later_becomes p r xs o os e h = (h.0, later_mine p (read_after p r xs) o os e h.1)

-- ---- serving

none_by : (begins : Begins) → Apart begins → (al : List AliasList) (o : Open) (os : List Open) (rs : List Record) (hs : LineHistories) (p : ℕ) (a b : Bool) → (o.process == p) ≡ false → is_done o.read ≡ a → is_done (served o.process al o.read rs hs).read ≡ b
    → own begins p (taken_by begins al os rs hs) ≡ [] → own begins p (taken_by begins al os (served o.process al o.read rs hs).records (served o.process al o.read rs hs).histories) ≡ [] → own begins p (taken_by begins al (o ∷ os) rs hs) ≡ []
unfolding taken_by
none_by begins sure al o os rs hs p true b m e d now later = rw e now
none_by begins sure al o os rs hs p false true m e d now later =
    let s = served o.process al o.read rs hs in
    rw (e, d) (own_more begins sure p o.process (Served hs al) (front rs s.records) (taken_by begins al os s.records s.histories) false m ∙ later)
none_by begins sure al o os rs hs p false false m e d now later =
    let s = served o.process al o.read rs hs in
    rw (e, d) (own_more begins sure p o.process (Served hs al) (front rs s.records) [] false m ∙ own_none begins p)

pub none_taken : (begins : Begins) → Apart begins → (al : List AliasList) (os : List Open) (rs : List Record) (hs : LineHistories) (p : ℕ) → is_open os p ≡ false → own begins p (taken_by begins al os rs hs) ≡ []
unfolding taken_by
none_taken begins sure al [] rs hs p none = own_none begins p
none_taken begins sure al (o ∷ os) rs hs p none =
    let parts = or_parts (o.process == p) (is_open os p) none in
    let s = served o.process al o.read rs hs in
    none_by begins sure al o os rs hs p (is_done o.read) (is_done s.read) parts.0 refl refl (none_taken begins sure al os rs hs p parts.1) (none_taken begins sure al os s.records s.histories p parts.1)

open_by : (al : List AliasList) (o : Open) (os : List Open) (rs : List Record) (hs : LineHistories) (p : ℕ) (a b : Bool) → is_done o.read ≡ a → is_done (served o.process al o.read rs hs).read ≡ b
    → is_open (settled al os rs hs).reads p ≡ is_open os p → is_open (settled al os (served o.process al o.read rs hs).records (served o.process al o.read rs hs).histories).reads p ≡ is_open os p → is_open (settled al (o ∷ os) rs hs).reads p ≡ is_open (o ∷ os) p
unfolding settled
open_by al o os rs hs p true b e d now later = rw e (ap (λ (x : Bool). (o.process == p) || x) now)
open_by al o os rs hs p false true e d now later = rw (e, d) (ap (λ (x : Bool). (o.process == p) || x) later)
open_by al o os rs hs p false false e d now later = rw (e, d) refl

pub settled_open : (al : List AliasList) (os : List Open) (rs : List Record) (hs : LineHistories) (p : ℕ) → is_open (settled al os rs hs).reads p ≡ is_open os p
unfolding settled
settled_open al [] rs hs p = refl
settled_open al (o ∷ os) rs hs p =
    let s = served o.process al o.read rs hs in
    open_by al o os rs hs p (is_done o.read) (is_done s.read) refl refl (settled_open al os rs hs p) (settled_open al os s.records s.histories p)

Settles : Begins → List AliasList → List Open → List Record → LineHistories → ℕ → OpenRead → Type 0
Settles begins al os rs hs p r = Mine p r os → Becomes p r (own begins p (taken_by begins al os rs hs)) (settled al os rs hs).reads

-- the read is another process's
other_by : (begins : Begins) → Apart begins → (al : List AliasList) (o : Open) (os : List Open) (rs : List Record) (hs : LineHistories) (p : ℕ) (r : OpenRead) (a b : Bool) → (o.process == p) ≡ false → is_done o.read ≡ a → is_done (served o.process al o.read rs hs).read ≡ b
    → Settles begins al os rs hs p r → Settles begins al os (served o.process al o.read rs hs).records (served o.process al o.read rs hs).histories p r → Mine p r os
    → Becomes p r (own begins p (taken_by begins al (o ∷ os) rs hs)) (settled al (o ∷ os) rs hs).reads
unfolding Settles taken_by settled
other_by begins sure al o os rs hs p r true b m e d now later mine = rw e (later_becomes p r (own begins p (taken_by begins al os rs hs)) o (settled al os rs hs).reads m (now mine))
other_by begins sure al o os rs hs p r false true m e d now later mine =
    let s = served o.process al o.read rs hs in
    let ps : List Piece = taken_by begins al os s.records s.histories in
    let one : Open = record o { read = s.read; started = true } in
    let rest : List Open = (settled al os s.records s.histories).reads in
    rw (e, d) (later_becomes p r (own begins p (by_read begins (Served hs al) o.process (front rs s.records) ∷ ps)) one rest m (other_done begins sure p o.process r (Served hs al) (front rs s.records) rest ps m (later mine)))
other_by begins sure al o os rs hs p r false false m e d now later mine =
    let s = served o.process al o.read rs hs in
    let one : Open = record o { read = s.read; started = true } in
    rw (e, d) (later_becomes p r (own begins p (by_read begins (Served hs al) o.process (front rs s.records) ∷ [])) one os m (other_done begins sure p o.process r (Served hs al) (front rs s.records) os [] m (nothing_done begins p r os [] (own_none begins p) mine)))

served_fits : (p q : ℕ) (al : List AliasList) (read : OpenRead) (rs : List Record) (hs : LineHistories) → q ≡ p → is_done read ≡ false → Fits p read (Served hs al) (front rs (served q al read rs hs).records)
unfolding Fits
served_fits p q al read rs hs e d = (d, subst (λ (n : ℕ). TakesAll p al read (front rs (served n al read rs hs).records) hs) (sym e) (takes_all p al read rs hs))

served_is : UnitsPiece → (p q : ℕ) (al : List AliasList) (read : OpenRead) (rs : List Record) (hs : LineHistories) → q ≡ p → IsProper read → is_done read ≡ false → (served q al read rs hs).read ≡ by_how p read (Served hs al) (front rs (served q al read rs hs).records)
served_is w p q al read rs hs e proper d = subst (λ (n : ℕ). (served n al read rs hs).read ≡ (served p al read (front rs (served n al read rs hs).records) hs).read) (sym e) (sym (same_alone w p al read rs hs proper d))

-- it is the process's own read
own_by : UnitsPiece → (begins : Begins) → Apart begins → (al : List AliasList) (o : Open) (os : List Open) (rs : List Record) (hs : LineHistories) (p : ℕ) (a b : Bool) → (o.process == p) ≡ true → is_done o.read ≡ a → is_done (served o.process al o.read rs hs).read ≡ b
    → IsProper o.read → is_open os p ≡ false → Becomes p o.read (own begins p (taken_by begins al (o ∷ os) rs hs)) (settled al (o ∷ os) rs hs).reads
unfolding taken_by settled
own_by w begins sure al o os rs hs p true b m e d proper none =
    rw e (nothing_done begins p o.read (o ∷ (settled al os rs hs).reads) (taken_by begins al os rs hs) (none_taken begins sure al os rs hs p none)
    (first_mine p o.read o (settled al os rs hs).reads m refl (settled_open al os rs hs p ∙ none)))
own_by w begins sure al o os rs hs p false true m e d proper none =
    let s = served o.process al o.read rs hs in
    let piece : List Record = front rs s.records in
    let is : o.process ≡ p = eqb-true o.process p m in
    let one : Open = record o { read = s.read; started = true } in
    let rest : List Open = (settled al os s.records s.histories).reads in
    rw (e, d) (one_done begins sure p o.process o.read (Served hs al) piece (one ∷ rest) (taken_by begins al os s.records s.histories) m (none_taken begins sure al os s.records s.histories p none)
    (served_fits p o.process al o.read rs hs is e)
    (first_mine p (by_how p o.read (Served hs al) piece) one rest m (served_is w p o.process al o.read rs hs is proper e) (settled_open al os s.records s.histories p ∙ none)))
own_by w begins sure al o os rs hs p false false m e d proper none =
    let s = served o.process al o.read rs hs in
    let piece : List Record = front rs s.records in
    let is : o.process ≡ p = eqb-true o.process p m in
    let one : Open = record o { read = s.read; started = true } in
    rw (e, d) (one_done begins sure p o.process o.read (Served hs al) piece (one ∷ os) [] m (own_none begins p)
    (served_fits p o.process al o.read rs hs is e)
    (first_mine p (by_how p o.read (Served hs al) piece) one os m (served_is w p o.process al o.read rs hs is proper e) none))

step_by : UnitsPiece → (begins : Begins) → Apart begins → (al : List AliasList) (o : Open) (os : List Open) (rs : List Record) (hs : LineHistories) (p : ℕ) (r : OpenRead) (m : Bool) → (o.process == p) ≡ m → IsProper r
    → Settles begins al os rs hs p r → Settles begins al os (served o.process al o.read rs hs).records (served o.process al o.read rs hs).histories p r
    → Choose m ((o.read ≡ r) × (is_open os p ≡ false)) (Mine p r os) → Becomes p r (own begins p (taken_by begins al (o ∷ os) rs hs)) (settled al (o ∷ os) rs hs).reads
unfolding Choose
step_by w begins sure al o os rs hs p r true m proper now later mine =
    subst (λ (x : OpenRead). Becomes p x (own begins p (taken_by begins al (o ∷ os) rs hs)) (settled al (o ∷ os) rs hs).reads) mine.0
    (own_by w begins sure al o os rs hs p (is_done o.read) (is_done (served o.process al o.read rs hs).read) m refl refl (subst IsProper (sym mine.0) proper) mine.1)
step_by w begins sure al o os rs hs p r false m proper now later mine = other_by begins sure al o os rs hs p r (is_done o.read) (is_done (served o.process al o.read rs hs).read) m refl refl now later mine

settles : UnitsPiece → (begins : Begins) → Apart begins → (al : List AliasList) (os : List Open) (rs : List Record) (hs : LineHistories) (p : ℕ) (r : OpenRead) → IsProper r → Settles begins al os rs hs p r
unfolding Settles Mine settled taken_by
settles w begins sure al [] rs hs p r proper = λ mine. nothing_done begins p r [] [] (own_none begins p) (none_mine p r [] refl)
settles w begins sure al (o ∷ os) rs hs p r proper = λ mine.
    let s = served o.process al o.read rs hs in
    step_by w begins sure al o os rs hs p r (o.process == p) refl proper (settles w begins sure al os rs hs p r proper) (settles w begins sure al os s.records s.histories p r proper) mine

pub settled_mine : UnitsPiece → (begins : Begins) → Apart begins → (al : List AliasList) (os : List Open) (rs : List Record) (hs : LineHistories) (p : ℕ) (r : OpenRead) → IsProper r → Mine p r os
    → Becomes p r (own begins p (taken_by begins al os rs hs)) (settled al os rs hs).reads
unfolding Settles
settled_mine w begins sure al os rs hs p r proper mine = settles w begins sure al os rs hs p r proper mine

-- ---- the console closes

pub closed_process : (o : Open) (b : Bool) → is_done o.read ≡ b → (closed_one o).process ≡ o.process
closed_process o true e = rw e refl
closed_process o false e = rw e refl

pub closed_open : (os : List Open) (p : ℕ) → is_open (all_closed os) p ≡ is_open os p
closed_open [] p = refl
closed_open (o ∷ os) p = ap (λ (x : ℕ). (x == p) || is_open (all_closed os) p) (closed_process o (is_done o.read) refl) ∙ ap (λ (x : Bool). (o.process == p) || x) (closed_open os p)

none_cut_by : (begins : Begins) → Apart begins → (o : Open) (os : List Open) (p : ℕ) (a : Bool) → (o.process == p) ≡ false → is_done o.read ≡ a → own begins p (cut_off begins os) ≡ [] → own begins p (cut_off begins (o ∷ os)) ≡ []
unfolding cut_off
none_cut_by begins sure o os p true m e h = rw e h
none_cut_by begins sure o os p false m e h = rw e (own_more begins sure p o.process CutOff [] (cut_off begins os) false m ∙ h)

pub none_cut : (begins : Begins) → Apart begins → (os : List Open) (p : ℕ) → is_open os p ≡ false → own begins p (cut_off begins os) ≡ []
unfolding cut_off
none_cut begins sure [] p none = own_none begins p
none_cut begins sure (o ∷ os) p none = let parts = or_parts (o.process == p) (is_open os p) none in none_cut_by begins sure o os p (is_done o.read) parts.0 refl (none_cut begins sure os p parts.1)

cut_one : (begins : Begins) → Apart begins → (o : Open) (os : List Open) (p : ℕ) (a : Bool) → (o.process == p) ≡ true → is_done o.read ≡ a → is_open os p ≡ false → Becomes p o.read (own begins p (cut_off begins (o ∷ os))) (all_closed (o ∷ os))
unfolding cut_off Fits
cut_one begins sure o os p true m e none = rw e (nothing_done begins p o.read (o ∷ all_closed os) (cut_off begins os) (none_cut begins sure os p none) (first_mine p o.read o (all_closed os) m refl (closed_open os p ∙ none)))
cut_one begins sure o os p false m e none =
    rw e (one_done begins sure p o.process o.read CutOff [] (failed code.Closed o ∷ all_closed os) (cut_off begins os) m (none_cut begins sure os p none) (e, refl)
    (first_mine p (reads.Done (answers.Fail code.Closed)) (failed code.Closed o) (all_closed os) m refl (closed_open os p ∙ none)))

cut_other : (begins : Begins) → Apart begins → (o : Open) (os : List Open) (p : ℕ) (r : OpenRead) (a : Bool) → (o.process == p) ≡ false → is_done o.read ≡ a → Becomes p r (own begins p (cut_off begins os)) (all_closed os) → Becomes p r (own begins p (cut_off begins (o ∷ os))) (all_closed (o ∷ os))
unfolding cut_off
cut_other begins sure o os p r true m e h = rw e (later_becomes p r (own begins p (cut_off begins os)) o (all_closed os) m h)
cut_other begins sure o os p r false m e h =
    rw e (later_becomes p r (own begins p (by_read begins CutOff o.process [] ∷ cut_off begins os)) (failed code.Closed o) (all_closed os) m (other_done begins sure p o.process r CutOff [] (all_closed os) (cut_off begins os) m h))

cut_by : (begins : Begins) → Apart begins → (o : Open) (os : List Open) (p : ℕ) (r : OpenRead) (m : Bool) → (o.process == p) ≡ m → (Mine p r os → Becomes p r (own begins p (cut_off begins os)) (all_closed os))
    → Choose m ((o.read ≡ r) × (is_open os p ≡ false)) (Mine p r os) → Becomes p r (own begins p (cut_off begins (o ∷ os))) (all_closed (o ∷ os))
unfolding Choose
cut_by begins sure o os p r true m rest mine = subst (λ (x : OpenRead). Becomes p x (own begins p (cut_off begins (o ∷ os))) (all_closed (o ∷ os))) mine.0 (cut_one begins sure o os p (is_done o.read) m refl mine.1)
cut_by begins sure o os p r false m rest mine = cut_other begins sure o os p r (is_done o.read) m refl (rest mine)

pub cut_mine : (begins : Begins) → Apart begins → (os : List Open) (p : ℕ) (r : OpenRead) → Mine p r os → Becomes p r (own begins p (cut_off begins os)) (all_closed os)
unfolding Mine cut_off
cut_mine begins sure [] p r mine = nothing_done begins p r [] [] (own_none begins p) (none_mine p r [] refl)
cut_mine begins sure (o ∷ os) p r mine = cut_by begins sure o os p r (o.process == p) refl (cut_mine begins sure os p r) mine

-- ---- ctrl+C ends the first line

changed_open : (os : List Open) (k : ℕ) (p : ℕ) → is_open (changed_at (failed code.Aborted) os k) p ≡ is_open os p
changed_open [] k p = refl
changed_open (o ∷ os) zero p = refl
changed_open (o ∷ os) (suc k) p = ap (λ (x : Bool). (o.process == p) || x) (changed_open os k p)

pub aborted_open : (os : List Open) (p : ℕ) → is_open (line_aborted os) p ≡ is_open os p
aborted_open os p = changed_open os (position_or_len is_open_line os) p

none_struck_by : (begins : Begins) → Apart begins → (o : Open) (os : List Open) (p : ℕ) (a : Bool) → (o.process == p) ≡ false → is_line o.read ≡ a → own begins p (interrupted begins os) ≡ [] → own begins p (interrupted begins (o ∷ os)) ≡ []
unfolding interrupted
none_struck_by begins sure o os p true m e h = rw e (own_more begins sure p o.process Interrupted [] [] false m ∙ own_none begins p)
none_struck_by begins sure o os p false m e h = rw e h

pub none_struck : (begins : Begins) → Apart begins → (os : List Open) (p : ℕ) → is_open os p ≡ false → own begins p (interrupted begins os) ≡ []
unfolding interrupted
none_struck begins sure [] p none = own_none begins p
none_struck begins sure (o ∷ os) p none = let parts = or_parts (o.process == p) (is_open os p) none in none_struck_by begins sure o os p (is_line o.read) parts.0 refl (none_struck begins sure os p parts.1)

-- the list after ctrl+C, by whether its first read is a line
Struck : Open → List Open → ℕ → Bool → List Open
Struck o os n b = changed_at (failed code.Aborted) (o ∷ os) (cond (not b) n 0)

struck_one : (begins : Begins) → Apart begins → (o : Open) (os : List Open) (p : ℕ) (a : Bool) → (o.process == p) ≡ true → is_line o.read ≡ a → is_open os p ≡ false → (n : ℕ) → n ≡ suc (position_or_len is_open_line os)
    → Becomes p o.read (own begins p (interrupted begins (o ∷ os))) (Struck o os n a)
unfolding interrupted Fits Struck
struck_one begins sure o os p true m e none n at =
    rw e (one_done begins sure p o.process o.read Interrupted [] (failed code.Aborted o ∷ os) [] m (own_none begins p) (e, refl) (first_mine p (reads.Done (answers.Fail code.Aborted)) (failed code.Aborted o) os m refl none))
struck_one begins sure o os p false m e none n at =
    rw (e, at) (nothing_done begins p o.read (o ∷ line_aborted os) (interrupted begins os) (none_struck begins sure os p none) (first_mine p o.read o (line_aborted os) m refl (aborted_open os p ∙ none)))

struck_other : (begins : Begins) → Apart begins → (o : Open) (os : List Open) (p : ℕ) (r : OpenRead) (a : Bool) → (o.process == p) ≡ false → is_line o.read ≡ a → (Mine p r os → Becomes p r (own begins p (interrupted begins os)) (line_aborted os)) → Mine p r os
    → (n : ℕ) → n ≡ suc (position_or_len is_open_line os) → Becomes p r (own begins p (interrupted begins (o ∷ os))) (Struck o os n a)
unfolding interrupted Struck
struck_other begins sure o os p r true m e rest mine n at =
    rw e (later_becomes p r (own begins p (by_read begins Interrupted o.process [] ∷ [])) (failed code.Aborted o) os m (other_done begins sure p o.process r Interrupted [] os [] m (nothing_done begins p r os [] (own_none begins p) mine)))
struck_other begins sure o os p r false m e rest mine n at = rw (e, at) (later_becomes p r (own begins p (interrupted begins os)) o (line_aborted os) m (rest mine))

struck_by : (begins : Begins) → Apart begins → (o : Open) (os : List Open) (p : ℕ) (r : OpenRead) (m : Bool) → (o.process == p) ≡ m → (Mine p r os → Becomes p r (own begins p (interrupted begins os)) (line_aborted os))
    → Choose m ((o.read ≡ r) × (is_open os p ≡ false)) (Mine p r os) → (n : ℕ) → n ≡ suc (position_or_len is_open_line os) → Becomes p r (own begins p (interrupted begins (o ∷ os))) (Struck o os n (is_line o.read))
unfolding Choose
struck_by begins sure o os p r true m rest mine n at = subst (λ (x : OpenRead). Becomes p x (own begins p (interrupted begins (o ∷ os))) (Struck o os n (is_line o.read))) mine.0 (struck_one begins sure o os p (is_line o.read) m refl mine.1 n at)
struck_by begins sure o os p r false m rest mine n at = struck_other begins sure o os p r (is_line o.read) m refl rest mine n at

pub struck_mine : (begins : Begins) → Apart begins → (os : List Open) (p : ℕ) (r : OpenRead) → Mine p r os → Becomes p r (own begins p (interrupted begins os)) (line_aborted os)
unfolding Mine interrupted Struck
struck_mine begins sure [] p r mine = nothing_done begins p r [] [] (own_none begins p) (none_mine p r [] refl)
struck_mine begins sure (o ∷ os) p r mine = struck_by begins sure o os p r (o.process == p) refl (struck_mine begins sure os p r) mine (1 + position_or_len is_open_line os) (omega arith)

-- ---- reads go, and begin

pub removed_open : (os : List Open) (k p : ℕ) → is_open os p ≡ false → is_open (remove os k) p ≡ false
removed_open [] zero p none = refl
removed_open [] (suc k) p none = refl
removed_open (o ∷ os) zero p none = (or_parts (o.process == p) (is_open os p) none).1
removed_open (o ∷ os) (suc k) p none = let parts = or_parts (o.process == p) (is_open os p) none in rw parts.0 (removed_open os k p parts.1)

first_removed : (o : Open) (os : List Open) (p : ℕ) (r : OpenRead) (m : Bool) → Choose m ((o.read ≡ r) × (is_open os p ≡ false)) (Mine p r os) → Mine p r os
unfolding Choose
first_removed o os p r true mine = none_mine p r os mine.1
first_removed o os p r false mine = mine

later_removed : (o : Open) (os : List Open) (k p : ℕ) (r : OpenRead) (m : Bool) → (Mine p r os → Mine p r (remove os k)) → Choose m ((o.read ≡ r) × (is_open os p ≡ false)) (Mine p r os)
    → Choose m ((o.read ≡ r) × (is_open (remove os k) p ≡ false)) (Mine p r (remove os k))
unfolding Choose
later_removed o os k p r true rest mine = (mine.0, removed_open os k p mine.1)
later_removed o os k p r false rest mine = rest mine

pub removed_mine : (os : List Open) (k p : ℕ) (r : OpenRead) → Mine p r os → Mine p r (remove os k)
unfolding Mine
removed_mine [] zero p r mine = tt
removed_mine [] (suc k) p r mine = tt
removed_mine (o ∷ os) zero p r mine = first_removed o os p r (o.process == p) mine
removed_mine (o ∷ os) (suc k) p r mine = later_removed o os k p r (o.process == p) (removed_mine os k p r) mine

pub begun_mine : (os : List Open) (p : ℕ) (read : OpenRead) → is_open os p ≡ false → Mine p read (os ++ begun p read ∷ [])
unfolding Mine Choose
begun_mine [] p read none = rw (eq-eqb p p refl) (refl, refl)
begun_mine (o ∷ os) p read none = let parts = or_parts (o.process == p) (is_open os p) none in rw parts.0 (begun_mine os p read parts.1)

pub begun_open : (os : List Open) (p q : ℕ) (read : OpenRead) → (q == p) ≡ false → is_open os p ≡ false → is_open (os ++ begun q read ∷ []) p ≡ false
begun_open [] p q read other none = rw other refl
begun_open (o ∷ os) p q read other none = let parts = or_parts (o.process == p) (is_open os p) none in rw parts.0 (begun_open os p q read other parts.1)

beside_by : (o : Open) (os : List Open) (p q : ℕ) (read r : OpenRead) (m : Bool) → (q == p) ≡ false → (Mine p r os → Mine p r (os ++ begun q read ∷ [])) → Choose m ((o.read ≡ r) × (is_open os p ≡ false)) (Mine p r os)
    → Choose m ((o.read ≡ r) × (is_open (os ++ begun q read ∷ []) p ≡ false)) (Mine p r (os ++ begun q read ∷ []))
unfolding Choose
beside_by o os p q read r true other rest mine = (mine.0, begun_open os p q read other mine.1)
beside_by o os p q read r false other rest mine = rest mine

pub beside_mine : (os : List Open) (p q : ℕ) (read r : OpenRead) → (q == p) ≡ false → Mine p r os → Mine p r (os ++ begun q read ∷ [])
unfolding Mine Choose
beside_mine [] p q read r other mine = rw other tt
beside_mine (o ∷ os) p q read r other mine = beside_by o os p q read r (o.process == p) other (beside_mine os p q read r other) mine

-- ---- what is collected

-- the read that is found is this one
unfoldable pub Found : OpenRead → Option Open → Type 0
Found r None = Unit {0}
Found r (Some o) = o.read ≡ r

found_by : (o : Open) (os : List Open) (p : ℕ) (r : OpenRead) (m : Bool) → (Mine p r os → Found r (slice_get os (place_of os p))) → Choose m ((o.read ≡ r) × (is_open os p ≡ false)) (Mine p r os)
    → (n : ℕ) → n ≡ suc (place_of os p) → Found r (slice_get (o ∷ os) (cond (not m) n 0))
unfolding Choose Found
found_by o os p r true rest mine n e = mine.0
found_by o os p r false rest mine n e = subst (λ (k : ℕ). Found r (slice_get (o ∷ os) k)) (sym e) (rest mine)

pub found_mine : (os : List Open) (p : ℕ) (r : OpenRead) → Mine p r os → Found r (slice_get os (place_of os p))
unfolding Mine Found
found_mine [] p r mine = tt
found_mine (o ∷ os) p r mine = found_by o os p r (o.process == p) (found_mine os p r) mine (1 + place_of os p) (omega arith)

gone_by : (o : Open) (os : List Open) (p : ℕ) (r : OpenRead) (m : Bool) → (o.process == p) ≡ m → (Mine p r os → is_open (without os p) p ≡ false) → Choose m ((o.read ≡ r) × (is_open os p ≡ false)) (Mine p r os)
    → (n : ℕ) → n ≡ suc (place_of os p) → is_open (remove (o ∷ os) (cond (not m) n 0)) p ≡ false
unfolding Choose
gone_by o os p r true e rest mine n at = mine.1
gone_by o os p r false e rest mine n at = subst (λ (k : ℕ). is_open (remove (o ∷ os) k) p ≡ false) (sym at) (rw e (rest mine))

-- once it is gone the process has none
pub gone_mine : (os : List Open) (p : ℕ) (r : OpenRead) → Mine p r os → is_open (without os p) p ≡ false
unfolding Mine
gone_mine [] p r mine = refl
gone_mine (o ∷ os) p r mine = gone_by o os p r (o.process == p) refl (gone_mine os p r) mine (1 + place_of os p) (omega arith)

without_by : (o : Open) (os : List Open) (p q : ℕ) (m : Bool) → (o.process == p) ≡ m → (p == q) ≡ false → is_open (without os p) q ≡ is_open os q → (n : ℕ) → n ≡ suc (place_of os p) → is_open (remove (o ∷ os) (cond (not m) n 0)) q ≡ is_open (o ∷ os) q
without_by o os p q true e other ih n at = sym (ap (λ (b : Bool). b || is_open os q) (ap (λ (k : ℕ). k == q) (eqb-true o.process p e) ∙ other))
without_by o os p q false e other ih n at = subst (λ (k : ℕ). is_open (remove (o ∷ os) k) q ≡ is_open (o ∷ os) q) (sym at) (ap (λ (b : Bool). (o.process == q) || b) ih)

-- another process's read stays
pub without_open : (os : List Open) (p q : ℕ) → (p == q) ≡ false → is_open (without os p) q ≡ is_open os q
without_open [] p q other = refl
without_open (o ∷ os) p q other = without_by o os p q (o.process == p) refl other (without_open os p q other) (1 + place_of os p) (omega arith)

-- ---- one thing after another

pub becomes_on : (p : ℕ) (r : OpenRead) (xs ys : List Piece) (os : List Open) → Right p r xs → Becomes p (read_after p r xs) ys os → Becomes p r (xs ++ ys) os
unfolding Becomes
becomes_on p r xs ys os right h = (right-append p r xs ys right h.0, subst (λ (x : OpenRead). Mine p x os) (sym (fold-append (done_to p) r xs ys)) h.1)
