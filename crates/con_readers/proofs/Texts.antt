-- What is to be shown is of the first read's text.
use Rattle.std.proofs.Common.{◌≡◌, ℕ, Bool, List, [], ◌∷◌, true, false, refl, ap, ◌∙◌, Option, Some, None}
use Rattle.con_records.specs.declared.record.Record.{Record}
use Rattle.con_history.specs.declared.histories.Histories.{Histories}
use Rattle.con_alias.specs.Aliases.{AliasList}
use Rattle.con_readers.specs.declared.open.Open.{Open}
use Rattle.con_cooked.specs.declared.cooked.Cooked.{Cooked}
use Rattle.con_cooked.specs.declared.progress.Progress.{Progress}
use Rattle.con_cooked.specs.declared.progress.Progress.TheVariants as progress
use Rattle.con_readers.specs.Wants.{units_of}
use Rattle.con_readers.specs.Lines.{line_text}
use Rattle.con_readers.specs.Words.Lines.{line_after, line_progress}
use Rattle.con_readers.specs.Act.{Act, began, typed, passed, ended, woke}
use Rattle.con_readers.specs.Words.Act.{told}
use Rattle.con_readers.specs.Steps.{is_idle}
use Rattle.std.specs.Prelude.{not, is_some}
use Rattle.con_readers.specs.Serving.{is_done}
use Rattle.con_readers.specs.Words.Serving.{took, took_units, took_one}
use Rattle.con_readers.specs.Words.Reads.{pumped, moved, head_text}
use Rattle.con_readers.specs.declared.open.OpenRead.{OpenRead}
use Rattle.con_readers.specs.declared.open.OpenRead.TheVariants as reads

one_text : (p q : ℕ) (al : List AliasList) (line line' old new : Cooked) (rs : List Record) (hs : Histories) (g : Progress) → (took_one p al line line' rs hs g).act ≡ Some (typed q old new) → (took_one p al line line' rs hs g).read ≡ reads.Line new
one_text p q al line line' old new rs hs (progress.Going e) h = let s : line' ≡ new = cc in ap reads.Line s
one_text p q al line line' old new rs hs (progress.Done e) h = cc
one_text p q al line line' old new rs hs progress.Woken h = cc

units_text : (p q n : ℕ) (old new : Cooked) (rs : List Record) (hs : Histories) (us : List ℕ) → (took_units p n rs hs us).act ≡ Some (typed q old new) → (took_units p n rs hs us).read ≡ reads.Line new
units_text p q n old new rs hs [] h = cc
units_text p q n old new rs hs (u ∷ us) h = cc

took_text : (p q : ℕ) (al : List AliasList) (read : OpenRead) (old new : Cooked) (r : Record) (rs : List Record) (hs : Histories) → (took p al read (r ∷ rs) hs).act ≡ Some (typed q old new) → (took p al read (r ∷ rs) hs).read ≡ reads.Line new
took_text p q al (reads.Line line) old new r rs hs h = one_text p q al line (line_after line r hs) old new rs hs (line_progress line r hs) h
took_text p q al (reads.Units n) old new r rs hs h = units_text p q n old new (r ∷ rs) hs (units_of n (r ∷ rs)) h
took_text p q al (reads.Records n) old new r rs hs h = cc
took_text p q al (reads.Done a) old new r rs hs h = cc

opn : ℕ → Bool → OpenRead → Open
opn p started read = record { process = p; started = started; read = read }

moved_text : (al : List AliasList) (p q : ℕ) (started : Bool) (read : OpenRead) (old new : Cooked) (rs : List Record) (hs : Histories) → (moved al (opn p started read) rs hs).act ≡ Some (typed q old new) → (moved al (opn p started read) rs hs).one.read ≡ reads.Line new
unfolding opn
moved_text al p q false read old new rs hs h = cc
moved_text al p q true read old new [] hs h = cc
moved_text al p q true read old new (r ∷ rs) hs h = took_text p q al read old new r rs hs h

moved_open : (al : List AliasList) (q : ℕ) (o : Open) (old new : Cooked) (rs : List Record) (hs : Histories) → (moved al o rs hs).act ≡ Some (typed q old new) → (moved al o rs hs).one.read ≡ reads.Line new
unfolding opn
moved_open al q o old new rs hs h = moved_text al o.process q o.started o.read old new rs hs h

head_of : (o : Open) (os : List Open) (new : Cooked) → o.read ≡ reads.Line new → head_text (o ∷ os) ≡ line_text new
head_of o os new e = rw e refl

head-done : (o : Open) (os : List Open) → is_done o.read ≡ true → head_text (o ∷ os) ≡ head_text os
head-done o os e = rw e refl

TextAfter : List AliasList → List Open → List Record → Histories → Type 0
TextAfter al os rs hs = (q : ℕ) (old new : Cooked) → (pumped al os rs hs).act ≡ Some (typed q old new) → head_text (pumped al os rs hs).reads ≡ line_text new

text_by : (al : List AliasList) (o : Open) (os : List Open) (rs : List Record) (hs : Histories) (b : Bool) → is_done o.read ≡ b → TextAfter al os rs hs → TextAfter al (o ∷ os) rs hs
unfolding TextAfter
text_by al o os rs hs true e ih = rw e (λ q old new h. head-done o (pumped al os rs hs).reads e ∙ ih q old new h)
text_by al o os rs hs false e ih = rw e (λ q old new h. head_of (moved al o rs hs).one os new (moved_open al q o old new rs hs h))

text_after_all : (al : List AliasList) (os : List Open) (rs : List Record) (hs : Histories) → TextAfter al os rs hs
unfolding TextAfter
text_after_all al [] rs hs = λ q old new h. cc
text_after_all al (o ∷ os) rs hs = text_by al o os rs hs (is_done o.read) refl (text_after_all al os rs hs)

pub text_after : (al : List AliasList) (os : List Open) (rs : List Record) (hs : Histories) (q : ℕ) (old new : Cooked) → (pumped al os rs hs).act ≡ Some (typed q old new) → head_text (pumped al os rs hs).reads ≡ line_text new
unfolding TextAfter
text_after al os rs hs = text_after_all al os rs hs

pub idle_told : (x : Option Act) → is_idle (told x) ≡ not (is_some x)
idle_told None = refl
idle_told (Some (began p)) = refl
idle_told (Some (typed p old new)) = refl
idle_told (Some (passed p)) = refl
idle_told (Some (ended p read n)) = refl
idle_told (Some (woke p line)) = refl
