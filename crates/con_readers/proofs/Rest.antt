-- A step is none exactly where nothing is left to do.
use Rattle.std.proofs.Common.{◌≡◌, ℕ, Bool, List, [], ◌∷◌, true, false, refl}
use Rattle.std.specs.Prelude.{◌&&◌, is_some, not}
use Rattle.con_records.specs.declared.record.Record.{Record}
use Rattle.con_history.specs.declared.histories.Histories.{Histories}
use Rattle.con_alias.specs.Aliases.{AliasList}
use Rattle.con_cooked.specs.declared.cooked.Cooked.{Cooked}
use Rattle.con_cooked.specs.declared.progress.Progress.{Progress}
use Rattle.con_cooked.specs.declared.progress.Progress.TheVariants as progress
use Rattle.con_readers.specs.Wants.{units_of}
use Rattle.con_readers.specs.Words.Lines.{line_after, line_progress}
use Rattle.con_readers.specs.Serving.{is_done}
use Rattle.con_readers.specs.Words.Serving.{took, took_units, took_one}
use Rattle.con_readers.specs.Words.Reads.{pumped, moved, is_none_left, is_at_rest}
use Rattle.con_readers.specs.declared.open.Open.{Open}
use Rattle.con_readers.specs.declared.open.OpenRead.{OpenRead}
use Rattle.con_readers.specs.declared.open.OpenRead.TheVariants as reads

one_acts : (p : ℕ) (al : List AliasList) (line line' : Cooked) (rs : List Record) (hs : Histories) (g : Progress) → is_some (took_one p al line line' rs hs g).act ≡ true
one_acts p al line line' rs hs (progress.Going echo) = refl
one_acts p al line line' rs hs (progress.Done echo) = refl
one_acts p al line line' rs hs progress.Woken = refl

units_act : (p n : ℕ) (rs : List Record) (hs : Histories) (us : List ℕ) → is_some (took_units p n rs hs us).act ≡ true
units_act p n rs hs [] = refl
units_act p n rs hs (u ∷ us) = refl

took_acts : (p : ℕ) (al : List AliasList) (read : OpenRead) (r : Record) (rs : List Record) (hs : Histories) → is_done read ≡ false → is_some (took p al read (r ∷ rs) hs).act ≡ true
took_acts p al (reads.Line line) r rs hs e = one_acts p al line (line_after line r hs) rs hs (line_progress line r hs)
took_acts p al (reads.Units n) r rs hs e = units_act p n (r ∷ rs) hs (units_of n (r ∷ rs))
took_acts p al (reads.Records n) r rs hs e = refl
took_acts p al (reads.Done a) r rs hs e = cc

opn : ℕ → Bool → OpenRead → Open
opn p started read = record { process = p; started = started; read = read }

moved_rest : (al : List AliasList) (p : ℕ) (started : Bool) (read : OpenRead) (rs : List Record) (hs : Histories) → is_done read ≡ false
    → not (is_some (moved al (opn p started read) rs hs).act) ≡ (started && is_none_left rs)
unfolding opn
moved_rest al p false read rs hs e = refl
moved_rest al p true read [] hs e = refl
moved_rest al p true read (r ∷ rs) hs e = rw (took_acts p al read r rs hs e) refl

moved_open : (al : List AliasList) (o : Open) (rs : List Record) (hs : Histories) → is_done o.read ≡ false → not (is_some (moved al o rs hs).act) ≡ (o.started && is_none_left rs)
unfolding opn
moved_open al o rs hs e = moved_rest al o.process o.started o.read rs hs e

Rests : List AliasList → List Open → List Record → Histories → Type 0
Rests al os rs hs = not (is_some (pumped al os rs hs).act) ≡ is_at_rest os rs

rests_by : (al : List AliasList) (o : Open) (os : List Open) (rs : List Record) (hs : Histories) (b : Bool) → is_done o.read ≡ b → Rests al os rs hs → Rests al (o ∷ os) rs hs
unfolding Rests
rests_by al o os rs hs true e ih = rw e ih
rests_by al o os rs hs false e ih = rw e (moved_open al o rs hs e)

pumped_rests : (al : List AliasList) (os : List Open) (rs : List Record) (hs : Histories) → Rests al os rs hs
unfolding Rests
pumped_rests al [] rs hs = refl
pumped_rests al (o ∷ os) rs hs = rests_by al o os rs hs (is_done o.read) refl (pumped_rests al os rs hs)

pub pump_rests : (al : List AliasList) (os : List Open) (rs : List Record) (hs : Histories) → not (is_some (pumped al os rs hs).act) ≡ is_at_rest os rs
unfolding Rests
pump_rests al os rs hs = pumped_rests al os rs hs
