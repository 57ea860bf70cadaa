-- The first read that is not done.
use Rattle.std.proofs.Common.{◌≡◌, ◌<◌, ◌≤◌, ◌+◌, ℕ, List, [], ◌∷◌, zero, suc, true, false, arith, refl, ap, sym, length, slice_set, add-one, subst, None}
use Rattle.std.specs.Prelude.{slice_index_or}
use Rattle.std.proofs.lemmas.Bool.{and_parts}
use Rattle.con_records.specs.declared.record.Record.{Record}
use Rattle.con_history.specs.declared.histories.Histories.{Histories}
use Rattle.con_alias.specs.Aliases.{AliasList}
use Rattle.con_readers.specs.declared.open.Open.{Open}
use Rattle.con_readers.specs.Serving.{is_done}
use Rattle.con_readers.specs.Words.Reads.{Pumped, pumped, moved, done_upto, head_text, text_in}

pub done_upto-suc : (k : ℕ) (os : List Open) (o : Open) → done_upto k os ≡ true → o ≡ slice_index_or os k o → is_done o.read ≡ true → done_upto (suc k) os ≡ true
done_upto-suc zero [] o h e d = refl
done_upto-suc zero (p ∷ os) o h e d = rw (← e, d) refl
done_upto-suc (suc k) [] o h e d = refl
done_upto-suc (suc k) (p ∷ os) o h e d = let both = and_parts (is_done p.read) (done_upto k os) h in rw (both.0, done_upto-suc k os o both.1 e d) refl

pub done_upto-more : (k : ℕ) (os : List Open) (o : Open) → done_upto k os ≡ true → o ≡ slice_index_or os k o → is_done o.read ≡ true → done_upto (k + 1) os ≡ true
done_upto-more k os o h e d = rw add-one (done_upto-suc k os o h e d)

-- the step of the k-th read, before which all are done
unfoldable pub stepped : List AliasList → ℕ → List Open → Open → List Record → Histories → Pumped
stepped al k os o rs hs = record { reads = slice_set os k (moved al o rs hs).one; records = (moved al o rs hs).records; histories = (moved al o rs hs).histories; act = (moved al o rs hs).act }

pub pumped-first : (al : List AliasList) (k : ℕ) (os : List Open) (o : Open) (rs : List Record) (hs : Histories) → done_upto k os ≡ true → k < length os → o ≡ slice_index_or os k o → is_done o.read ≡ false
    → pumped al os rs hs ≡ stepped al k os o rs hs
unfolding stepped
pumped-first al zero [] o rs hs h lt e d = absurd (omega arith)
pumped-first al zero (p ∷ os) o rs hs h lt e d = rw (← e, d) refl
pumped-first al (suc k) [] o rs hs h lt e d = absurd (omega arith)
pumped-first al (suc k) (p ∷ os) o rs hs h lt e d =
    let both = and_parts (is_done p.read) (done_upto k os) h in
    rw both.0 (ap (λ (q : Pumped). let r : Pumped = record q { reads = p ∷ q.reads } in r) (pumped-first al k os o rs hs both.1 (omega arith) e d))

pub pumped-none : (al : List AliasList) (k : ℕ) (os : List Open) (rs : List Record) (hs : Histories) → done_upto k os ≡ true → length os ≤ k → pumped al os rs hs ≡ record { reads = os; records = rs; histories = hs; act = None }
pumped-none al k [] rs hs h le = refl
pumped-none al zero (p ∷ os) rs hs h le = absurd (omega arith)
pumped-none al (suc k) (p ∷ os) rs hs h le =
    let both = and_parts (is_done p.read) (done_upto k os) h in
    rw both.0 (ap (λ (q : Pumped). let r : Pumped = record q { reads = p ∷ q.reads } in r) (pumped-none al k os rs hs both.1 (omega arith)))

pub at_first : (al : List AliasList) (k : ℕ) (os : List Open) (x : Open) (rs : List Record) (hs : Histories) → done_upto k os ≡ true → k < length os → x ≡ slice_index_or os k x
    → ((o : Open) → k < length os → o ≡ slice_index_or os k o → is_done o.read ≡ false)
    → stepped al k os (slice_index_or os k x) rs hs ≡ pumped al os rs hs
at_first al k os x rs hs h lt e here =
    let P : Open → Type 0 = λ y. stepped al k os y rs hs ≡ pumped al os rs hs in
    subst P e (sym (pumped-first al k os x rs hs h lt e (here x lt e)))

pub head-first : (k : ℕ) (os : List Open) (o : Open) → done_upto k os ≡ true → k < length os → o ≡ slice_index_or os k o → is_done o.read ≡ false → head_text os ≡ text_in o.read
head-first zero [] o h lt e d = absurd (omega arith)
head-first zero (p ∷ os) o h lt e d = rw (← e, d) refl
head-first (suc k) [] o h lt e d = absurd (omega arith)
head-first (suc k) (p ∷ os) o h lt e d = let both = and_parts (is_done p.read) (done_upto k os) h in rw both.0 (head-first k os o both.1 (omega arith) e d)

pub head-none : (k : ℕ) (os : List Open) → done_upto k os ≡ true → length os ≤ k → head_text os ≡ []
head-none k [] h le = refl
head-none zero (p ∷ os) h le = absurd (omega arith)
head-none (suc k) (p ∷ os) h le = let both = and_parts (is_done p.read) (done_upto k os) h in rw both.0 (head-none k os both.1 (omega arith))
