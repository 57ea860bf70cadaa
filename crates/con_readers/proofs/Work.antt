-- Each step lowers the work.
use Rattle.std.proofs.Common.{◌≡◌, ◌<◌, ◌≤◌, ◌+◌, ℕ, Bool, List, [], ◌∷◌, zero, suc, true, false, arith, refl, length, length-drop}
use Rattle.std.specs.Prelude.{◌==◌, if◌then◌else◌, is_some}
use Rattle.con_records.specs.declared.record.Record.{Record}
use Rattle.con_history.specs.declared.histories.Histories.{Histories}
use Rattle.con_alias.specs.Aliases.{AliasList}
use Rattle.con_readers.specs.declared.open.Open.{Open}
use Rattle.con_cooked.specs.declared.cooked.Cooked.{Cooked}
use Rattle.con_cooked.specs.declared.progress.Progress.{Progress}
use Rattle.con_cooked.specs.declared.progress.Progress.TheVariants as progress
use Rattle.con_readers.specs.Wants.{typed_unit, units_of, rest_of}
use Rattle.con_readers.specs.Words.Lines.{line_after, line_progress}
use Rattle.con_readers.specs.Serving.{is_done}
use Rattle.con_readers.specs.Words.Serving.{took, took_units, took_one}
use Rattle.con_readers.specs.Words.Reads.{pumped, moved, work, weight}
use Rattle.con_readers.specs.declared.open.OpenRead.{OpenRead}
use Rattle.con_readers.specs.declared.open.OpenRead.TheVariants as reads

unweight : OpenRead → ℕ
unweight r = if is_done r then 0 else 1

pub rest-shorter : (n : ℕ) (rs : List Record) → length (rest_of n rs) ≤ length rs
unfolding rest_of
rest-shorter n [] = omega arith
rest-shorter zero (r ∷ rs) = omega arith
rest-shorter (suc n) (r ∷ rs) =
    let P : Bool → Type 0 = λ b. length (if b then rest_of (suc n) rs else rest_of n rs) ≤ suc (length rs) in
    let a = rest-shorter (suc n) rs in
    let b = rest-shorter n rs in
    elim (typed_unit r == 0) as P [ true ↦ omega arith | false ↦ omega arith ]

one_less : (p : ℕ) (al : List AliasList) (line line' : Cooked) (rs : List Record) (hs : Histories) (g : Progress) → let t = took_one p al line line' rs hs g in unweight t.read + length t.records < 1 + suc (length rs)
unfolding unweight
one_less p al line line' rs hs (progress.Going echo) = omega arith
one_less p al line line' rs hs (progress.Done echo) = omega arith
one_less p al line line' rs hs progress.Woken = omega arith

units_less : (p n : ℕ) (r : Record) (rs : List Record) (hs : Histories) (us : List ℕ) → let t = took_units p n (r ∷ rs) hs us in unweight t.read + length t.records < 1 + suc (length rs)
unfolding unweight
units_less p n r rs hs [] = omega arith
units_less p n r rs hs (u ∷ us) = let h = rest-shorter n (r ∷ rs) in omega arith

took_less : (p : ℕ) (al : List AliasList) (read : OpenRead) (r : Record) (rs : List Record) (hs : Histories) → is_done read ≡ false → let t = took p al read (r ∷ rs) hs in unweight t.read + length t.records < 1 + suc (length rs)
unfolding unweight
took_less p al (reads.Line line) r rs hs e = one_less p al line (line_after line r hs) rs hs (line_progress line r hs)
took_less p al (reads.Units n) r rs hs e = units_less p n r rs hs (units_of n (r ∷ rs))
took_less p al (reads.Records n) r rs hs e = omega (arith, length-drop n (r ∷ rs))
took_less p al (reads.Done a) r rs hs e = cc

pub work-length : (os : List Open) (rs qs : List Record) → work os rs + length qs ≡ work os qs + length rs
unfolding work
work-length [] rs qs = omega arith
work-length (o ∷ os) rs qs = let h = work-length os rs qs in omega arith

opn : ℕ → Bool → OpenRead → Open
opn p started read = record { process = p; started = started; read = read }

moved_less : (al : List AliasList) (p : ℕ) (started : Bool) (read : OpenRead) (rs : List Record) (hs : Histories) → is_done read ≡ false → is_some (moved al (opn p started read) rs hs).act ≡ true
    → let m = moved al (opn p started read) rs hs in weight m.one + length m.records < weight (opn p started read) + length rs
unfolding opn unweight
moved_less al p false read rs hs e i = rw e (omega arith)
moved_less al p true read [] hs e i = cc
moved_less al p true read (r ∷ rs) hs e i = rw e (took_less p al read r rs hs e)

moved_open : (al : List AliasList) (o : Open) (rs : List Record) (hs : Histories) → is_done o.read ≡ false → is_some (moved al o rs hs).act ≡ true → weight (moved al o rs hs).one + length (moved al o rs hs).records < weight o + length rs
unfolding opn
moved_open al o rs hs e i = moved_less al o.process o.started o.read rs hs e i

Less : List AliasList → List Open → List Record → Histories → Type 0
Less al os rs hs = is_some (pumped al os rs hs).act ≡ true → work (pumped al os rs hs).reads (pumped al os rs hs).records < work os rs

weight-done : (o : Open) → is_done o.read ≡ true → weight o ≡ 0
weight-done o e = rw e refl

weight-undone : (o : Open) → is_done o.read ≡ false → weight o ≡ (if o.started then 1 else 2)
weight-undone o e = rw e refl

less_by : (al : List AliasList) (o : Open) (os : List Open) (rs : List Record) (hs : Histories) (b : Bool) → is_done o.read ≡ b → Less al os rs hs → Less al (o ∷ os) rs hs
unfolding Less work
less_by al o os rs hs true e ih = rw e (λ i. let h = ih i in omega (arith, weight-done o e))
less_by al o os rs hs false e ih = rw e (λ i. let h = moved_open al o rs hs e i in omega (arith, weight-undone o e, work-length os (moved al o rs hs).records rs))

pumped_less : (al : List AliasList) (os : List Open) (rs : List Record) (hs : Histories) → Less al os rs hs
unfolding Less
pumped_less al [] rs hs = λ i. cc
pumped_less al (o ∷ os) rs hs = less_by al o os rs hs (is_done o.read) refl (pumped_less al os rs hs)

pub pump_less : (al : List AliasList) (os : List Open) (rs : List Record) (hs : Histories) → is_some (pumped al os rs hs).act ≡ true → work (pumped al os rs hs).reads (pumped al os rs hs).records < work os rs
unfolding Less
pump_less al os rs hs = pumped_less al os rs hs
