-- The history at its place was changed.
use Rattle.std.proofs.Common.{◌<◌, ◌≤◌, ◌∙◌, [], length, ap, sym, arith}
use Rattle.con_history.specs.Histories.{ProgramLines}
use Rattle.con_history.specs.Words.Histories.{place_of}
use Rattle.con_history.proofs.Places.{changed-written, changed-none}
use Rattle.con_history.proofs.histories.clear_in.Goals as goal

pub returns-then-known-used : goal.returns-then-known-used
returns-then-known-used c =
    let f : ProgramLines → ProgramLines = λ h. record h { lines = [] } in
    let within : c.place-known.result < length c.args.used.now = omega arith in
    changed-written f c.args.program.now c.args.used.now c.place-known.result c.index-used-known.result _ c.place-known.ensures.place within c.index-used-known.is (c.clear.ensures ∙ ap f (sym c.index-used-known.is))

pub returns-else-known-used : goal.returns-else-known-used
returns-else-known-used c =
    let f : ProgramLines → ProgramLines = λ h. record h { lines = [] } in
    let past : length c.args.used.now ≤ place_of c.args.program.now c.args.used.now = omega arith in
    sym (changed-none f c.args.program.now c.args.used.now past)
