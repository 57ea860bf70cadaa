-- A line that takes the first record.
use Rattle.std.proofs.Common.{◌≡◌, ℕ, Bool, true, false, List, [], ◌∷◌, refl, ap, ◌∙◌, sym}
use Rattle.std.specs.Prelude.{if◌then◌else◌}
use Rattle.con_records.specs.declared.record.Record.{Record}
use Rattle.con_history.specs.declared.histories.Histories.{Histories}
use Rattle.con_alias.specs.Aliases.{AliasList}
use Rattle.con_cooked.specs.Cooked.{line_of, is_return}
use Rattle.con_cooked.specs.Words.Cooked.{echo_between}
use Rattle.con_cooked.specs.Keys.{key_of}
use Rattle.con_cooked.specs.Mask.{is_masked}
use Rattle.con_cooked.specs.declared.cooked.Cooked.{Cooked}
use Rattle.con_cooked.specs.declared.progress.Echo.{Echo}
use Rattle.con_cooked.specs.declared.progress.Progress.{Progress}
use Rattle.con_cooked.specs.declared.progress.Progress.TheVariants as progress
use Rattle.con_readers.specs.Words.Lines.{line_after, line_progress}
use Rattle.con_readers.specs.Words.Act.{told}
use Rattle.con_readers.specs.Words.Serving.{Took, took_one, took_line}
use Rattle.con_readers.specs.declared.step.ReadStep.TheVariants as steps

-- which way a press goes, by whether it is a masked control, and else whether it is return
abbrev pub pressed_so : Bool → Bool → Echo → Progress
pressed_so masked returned echo = if masked then progress.Woken else if returned then progress.Done echo else progress.Going echo

-- the echo with which a line goes on is that of the press
going_echo : (masked returned : Bool) (drawn echo : Echo) → progress.Going echo ≡ pressed_so masked returned drawn → echo ≡ drawn
going_echo true returned drawn echo h = cc
going_echo false true drawn echo h = cc
going_echo false false drawn echo h = cc

-- and what is told of it
pub line-echo : (p : ℕ) (al : List AliasList) (line : Cooked) (r : Record) (hs : Histories) (echo : Echo) → progress.Going echo ≡ line_progress line r hs
    → steps.Echo p echo ≡ told (took_one p al line (line_after line r hs) [] hs (line_progress line r hs)).act
line-echo p al line r hs echo h =
    let drawn : Echo = echo_between (line_of line).line (line_of (line_after line r hs)).line in
    let same : echo ≡ drawn = going_echo (is_masked line.mask r) (is_return (key_of r)) drawn echo h in
    ap (λ (e : Echo). steps.Echo p e) same ∙ ap (λ (g : Progress). told (took_one p al line (line_after line r hs) [] hs g).act) h

-- what is left of the records has no say in the rest
with_records : Took → List Record → Took
with_records t rs = record t { records = rs }

one-took : (p : ℕ) (al : List AliasList) (line line' : Cooked) (rs : List Record) (hs : Histories) (g : Progress) → with_records (took_one p al line line' [] hs g) rs ≡ took_one p al line line' rs hs g
unfolding with_records
one-took p al line line' rs hs (progress.Going echo) = refl
one-took p al line line' rs hs (progress.Done echo) = refl
one-took p al line line' rs hs progress.Woken = refl

line-took : (p : ℕ) (al : List AliasList) (line : Cooked) (r : Record) (rs items : List Record) (hs : Histories) → items ≡ r ∷ rs
    → with_records (took_one p al line (line_after line r hs) [] hs (line_progress line r hs)) rs ≡ took_line p al line items hs
line-took p al line r rs items hs e = one-took p al line (line_after line r hs) rs hs (line_progress line r hs) ∙ ap (λ (xs : List Record). took_line p al line xs hs) (sym e)

pub line-read : (p : ℕ) (al : List AliasList) (line : Cooked) (r : Record) (rs items : List Record) (hs : Histories) → items ≡ r ∷ rs
    → (took_one p al line (line_after line r hs) [] hs (line_progress line r hs)).read ≡ (took_line p al line items hs).read
unfolding with_records
line-read p al line r rs items hs e = ap (λ (t : Took). t.read) (line-took p al line r rs items hs e)

pub line-told : (p : ℕ) (al : List AliasList) (line : Cooked) (r : Record) (rs items : List Record) (hs : Histories) → items ≡ r ∷ rs
    → told (took_one p al line (line_after line r hs) [] hs (line_progress line r hs)).act ≡ told (took_line p al line items hs).act
unfolding with_records
line-told p al line r rs items hs e = ap (λ (t : Took). told t.act) (line-took p al line r rs items hs e)

pub line-records : (p : ℕ) (al : List AliasList) (line : Cooked) (r : Record) (rs items : List Record) (hs : Histories) → items ≡ r ∷ rs → rs ≡ (took_line p al line items hs).records
unfolding with_records
line-records p al line r rs items hs e = ap (λ (t : Took). t.records) (line-took p al line r rs items hs e)

pub line-histories : (p : ℕ) (al : List AliasList) (line : Cooked) (r : Record) (rs items : List Record) (hs : Histories) → items ≡ r ∷ rs
    → (took_one p al line (line_after line r hs) [] hs (line_progress line r hs)).histories ≡ (took_line p al line items hs).histories
unfolding with_records
line-histories p al line r rs items hs e = ap (λ (t : Took). t.histories) (line-took p al line r rs items hs e)
