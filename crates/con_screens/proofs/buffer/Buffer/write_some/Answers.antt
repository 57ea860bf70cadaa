use Rattle.std.proofs.Common.{◌≡◌, ◌∙◌, ap, sym, take}
use Rattle.con_screen.specs.Screen.{Screen}
use Rattle.con_screen.specs.Told.{Told}
use Rattle.con_screen.specs.Words.Told.{Answered}
use Rattle.con_screen.specs.Written.{written}
use Rattle.con_screens.specs.Buffer.{turned}
use Rattle.con_screens.specs.declared.buffer.Buffer.{Buffer}
use Rattle.con_screens.specs.StampLaws.{shown_remembered}
use Rattle.con_screens.proofs.KeepLemmas.{keeps_sides}
use Rattle.con_screens.proofs.WriteLemmas.{run_on, switch_one, staged}
use Rattle.con_screens.proofs.buffer.Buffer.write_some.Goals as goal

pub returns-then-switched-clause-stage : goal.returns-then-switched-clause-stage
returns-then-switched-clause-stage c =
    let b : Buffer = c.args.self.now in
    let t : Told = c.args.answers.now.told in
    let us = take c.write_some-n.result.0 c.args.units.now in
    let e = c.write_some-n.ensures in
    let told : c.write_some-n.new.answers.told ≡ (written b.shown t us).told = ap (λ (a : Answered). a.told) e.told in
    let turned_is : c.turn.new.self ≡ turned (record b { shown = (written b.shown t us).screen }) (written b.shown t us).told.alternate =
    c.turn.ensures.buffer ∙ ap (λ o. turned (record b { shown = c.write_some-n.new.self }) o) (c.alternate.ensures ∙ ap (λ (x : Told). x.alternate) told) ∙ ap (λ (s : Screen). turned (record b { shown = s }) (written b.shown t us).told.alternate) e.screen in
    switch_one b t c.args.units.now c.write_some-n.result.0 (e.one c.if-switched.true) c.requires.some (sym e.switch ∙ c.if-switched.true) ∙ sym (staged _ _ _ _ turned_is told)

pub returns-then-switched-clause-kept : goal.returns-then-switched-clause-kept
returns-then-switched-clause-kept c = λ w h n is.
    c.turn.ensures.kept w h n (keeps_sides w h n c.args.self.now c.write_some-n.new.self is c.write_some-n.ensures.page c.write_some-n.ensures.sides)

pub returns-else-switched-clause-stage : goal.returns-else-switched-clause-stage
returns-else-switched-clause-stage c =
    let b : Buffer = c.args.self.now in
    let t : Told = c.args.answers.now.told in
    let us = take c.write_some-n.result.0 c.args.units.now in
    let e = c.write_some-n.ensures in
    let told : c.write_some-n.new.answers.told ≡ (written b.shown t us).told = ap (λ (a : Answered). a.told) e.told in
    run_on c.is_written_whole.ensures c.is_switched_whole.ensures b t us (sym e.switch ∙ c.if-switched.false) ∙ sym (staged _ _ _ _ (ap (λ (s : Screen). record b { shown = s }) e.screen) told)

pub returns-else-switched-clause-kept : goal.returns-else-switched-clause-kept
returns-else-switched-clause-kept c = λ w h n is. keeps_sides w h n c.args.self.now c.write_some-n.new.self is c.write_some-n.ensures.page c.write_some-n.ensures.sides

pub returns-then-switched-clause-remembered : goal.returns-then-switched-clause-remembered
returns-then-switched-clause-remembered c = c.turn.ensures.remembered ∙ shown_remembered c.args.self.now c.write_some-n.new.self c.write_some-n.ensures.sides

pub returns-else-switched-clause-remembered : goal.returns-else-switched-clause-remembered
returns-else-switched-clause-remembered c = shown_remembered c.args.self.now c.write_some-n.new.self c.write_some-n.ensures.sides
