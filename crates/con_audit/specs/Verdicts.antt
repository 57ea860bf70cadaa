-- The code's own words: parts of a verdict.
use Rattle.std.specs.Prelude.{◌≡◌, ◌⊎◌, ℕ, ◌+◌, ◌<◌, true, List, length, take}
use Rattle.std.specs.List.{AllByRecursion}
use Rattle.con_units.specs.declared.view.Frame.{Frame}
use Rattle.con_events.specs.declared.entry.Entry.{Entry}
use Rattle.con_events.specs.declared.reply.Reply.{Reply}
use Rattle.con_machine.specs.State.{State}
use Rattle.con_machine.specs.Step.{step}
use Rattle.con_machine.specs.Turns.{is_paint}
use Rattle.con_audit.specs.Audit.{Given, Holds, Passes, FirstFails, parts}
use Rattle.con_audit.specs.declared.verdict.What.{What}
use Rattle.con_audit.specs.declared.verdict.What.TheVariants as what

-- one reply
abbrev pub IsReplied : State → Entry → Reply → Type 0
IsReplied s x r = (is_paint x.event ≡ true) ⊎ (r ≡ (step s x.actor x.event).reply)

abbrev pub HoldAll : List What → Given → List Frame → List Entry → Type 0
HoldAll ws g frames h = AllByRecursion (λ w. Holds w g frames h) ws

-- the entries before place k pass
abbrev pub Stops : Given → List Frame → ℕ → What → Type 0
Stops g frames k w = Passes g frames (take k g.entries) ×
    (((k < length g.entries) × FirstFails parts w g frames (take (k + 1) g.entries))
    ⊎ ((k ≡ length g.entries) × (w ≡ what.Whole) × ¬ (Holds what.Whole g frames g.entries)))
