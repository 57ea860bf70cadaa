-- A read that nothing woke gives the lines of its text, and adds it.
use Rattle.std.proofs.Common.{◌≡◌, ℕ, List, rules}
use Rattle.con_history.specs.Histories.{LineHistories, added_to}
use Rattle.con_cooked.specs.Cooked.{Edited, CookedRead}
use Rattle.con_cooked.specs.Parts.{lines_for}
use Rattle.con_cooked.proofs.Finishing.{finish-answer, finish-histories}
use Rattle.con_cooked.proofs.cooked.Cooked.finish.Goals as goal

pub returns-clause-answer : goal.returns-clause-answer
returns-clause-answer c =
    let e : Edited = c.self.inside.edited in
    let r : CookedRead = record {
      program = c.self.inside.program;
      insert = c.self.inside.began.value.line.insert;
      initial = c.self.inside.began.value.line.units;
      mask = c.self.inside.mask;
      presses = c.self.inside.presses;
    } in
    let zero : c.self.inside.woken ≡ 0 = search (rules, c.if-woken-ne0.false) in
    let text : c.text.result.now ≡ e.line.units = search rules in
    let out : c.expand.new.out.items ≡ lines_for c.args.aliases.now.programs r.program c.text.result.now = c.expand.ensures in
    rw (← c.self.view_is)
    (finish-answer r c.args.aliases.now.programs e c.self.inside.woken c.text.result.now c.expand.new.out.items c.self.invariant.0 c.self.invariant.1 zero text out)

pub returns-clause-histories : goal.returns-clause-histories
returns-clause-histories c =
    let e : Edited = c.self.inside.edited in
    let r : CookedRead = record {
      program = c.self.inside.program;
      insert = c.self.inside.began.value.line.insert;
      initial = c.self.inside.began.value.line.units;
      mask = c.self.inside.mask;
      presses = c.self.inside.presses;
    } in
    let zero : c.self.inside.woken ≡ 0 = search (rules, c.if-woken-ne0.false) in
    let text : c.into_units.result ≡ e.line.units = search rules in
    let added : c.add.new.self ≡ added_to c.args.histories.now r.program c.into_units.result = c.add.ensures in
    rw (← c.self.view_is)
    (finish-histories r c.args.histories.now e c.self.inside.woken c.into_units.result c.add.new.self c.self.invariant.0 c.self.invariant.1 zero text added)

pub returns-then-woken-ne0-clause-histories : goal.returns-then-woken-ne0-clause-histories
returns-then-woken-ne0-clause-histories c = search rules
