-- Its lines are those at its place.
use Rattle.std.proofs.Common.{◌<◌, ◌≤◌, ◌∙◌, ℕ, ap, length, get_or, arith}
use Rattle.con_history.specs.Histories.{ProgramLines}
use Rattle.con_history.specs.Words.Histories.{place_of}
use Rattle.con_history.proofs.Places.{lines-at, lines-none}
use Rattle.con_history.proofs.histories.history_of.Goals as goal

pub returns-then-known-used : goal.returns-then-known-used
returns-then-known-used c =
    let here : place_of c.args.program.now c.args.used.now < length c.args.used.now = omega arith in
    ap (λ (h : ProgramLines). h.lines) (c.index-used-known.is ∙ ap (λ (k : ℕ). get_or c.args.used.now k c.index-used-known.result) c.place-known.ensures.place)
    ∙ lines-at c.args.program.now c.args.used.now c.index-used-known.result here

pub returns-else-known-used : goal.returns-else-known-used
returns-else-known-used c =
    let past : length c.args.used.now ≤ place_of c.args.program.now c.args.used.now = omega arith in
    lines-none c.args.program.now c.args.used.now past
