-- A key that is not masked acts by the table.
use Rattle.std.proofs.Common.{◌≡◌, ◌∙◌, ◌++◌, ◌∷◌, [], ℕ, false, ap, refl, rules}
use Rattle.con_line.specs.Line.{LineText}
use Rattle.con_line.specs.Words.Line.{edit_between}
use Rattle.con_line.specs.declared.edit.Edit.{Edit}
use Rattle.con_history.specs.Histories.{lines_of}
use Rattle.con_cooked.specs.Keys.{key_of}
use Rattle.con_cooked.specs.Mask.{is_masked}
use Rattle.con_cooked.specs.Cooked.{Edited, Moment, CookedRead, key_pressed}
use Rattle.con_cooked.specs.Words.Cooked.{echo_between}
use Rattle.con_cooked.specs.Parts.{opened, line_after}
use Rattle.con_cooked.specs.declared.keys.LineKey.{LineKey}
use Rattle.con_cooked.proofs.Waking.{not-masked_of, pressed-unmasked, woken-last, progress-unmasked, echo_of}
use Rattle.con_cooked.proofs.cooked.Cooked.press.Goals as goal

pub invariant_of-self-2 : goal.invariant_of-self-2
invariant_of-self-2 c =
    let mask : ℕ = c.self.inside.mask in
    let m : Moment = record { pressed = c.args.pressed.now; lines = lines_of c.args.histories.now c.self.inside.program } in
    let zero : c.waking_unit-self-inside.result ≡ 0 = search (rules, c.if-self-ne0.false) in
    let none : is_masked mask m.pressed ≡ false = not-masked_of c.waking_unit-self-inside.result (is_masked mask m.pressed) c.waking_unit-self-inside.ensures.masked zero in
    let last : c.push.new.self ≡ c.self.inside.presses ++ m ∷ [] = c.push.ensures ∙ ap (λ (x : Moment). c.self.inside.presses ++ x ∷ []) c.of.ensures in
    let after : c.press-edit.new.self ≡ key_pressed c.self.inside.edited (key_of m.pressed) m.lines = c.press-edit.ensures.line ∙ ap (λ (k : LineKey). key_pressed c.self.inside.edited k m.lines) c.read_key-key.ensures in (
      pressed-unmasked mask (opened c.self.inside.began.value.line.insert c.self.inside.began.value.line.units) c.self.inside.edited c.press-edit.new.self c.self.inside.presses c.push.new.self m none c.self.invariant.0 last after,
      woken-last mask c.self.inside.presses c.push.new.self m c.waking_unit-self-inside.result last c.waking_unit-self-inside.ensures.unit,
      c.self.invariant.2,
      c.self.invariant.3,
    )

pub returns-clause-progress : goal.returns-clause-progress
returns-clause-progress c =
    let mask : ℕ = c.self.inside.mask in
    let began : Edited = opened c.self.inside.began.value.line.insert c.self.inside.began.value.line.units in
    let m : Moment = record { pressed = c.args.pressed.now; lines = lines_of c.args.histories.now c.self.inside.program } in
    let zero : c.waking_unit-self-inside.result ≡ 0 = search (rules, c.if-self-ne0.false) in
    let none : is_masked mask m.pressed ≡ false = not-masked_of c.waking_unit-self-inside.result (is_masked mask m.pressed) c.waking_unit-self-inside.ensures.masked zero in
    let after : c.press-edit.new.self ≡ key_pressed c.self.inside.edited (key_of m.pressed) m.lines = c.press-edit.ensures.line ∙ ap (λ (k : LineKey). key_pressed c.self.inside.edited k m.lines) c.read_key-key.ensures in
    let whole : line_after mask began (c.self.inside.presses ++ m ∷ []) ≡ c.press-edit.new.self =
    pressed-unmasked mask began c.self.inside.edited c.press-edit.new.self c.self.inside.presses (c.self.inside.presses ++ m ∷ []) m none c.self.invariant.0 refl after in
    let drawn : c.echo-echo.result ≡ echo_between c.self.inside.edited.line c.press-edit.new.self.line =
    c.echo-echo.ensures
    ∙ ap (λ (e : Edit). echo_of e c.line.result.now) c.press-edit.ensures.edit
    ∙ ap (λ (l : LineText). echo_of (edit_between c.self.inside.edited.line.units c.press-edit.new.self.line.units) l) c.line.ensures in
    let r : CookedRead = record {
      program = c.self.inside.program;
      insert = c.self.inside.began.value.line.insert;
      initial = c.self.inside.began.value.line.units;
      mask = mask;
      presses = c.self.inside.presses;
    } in
    rw (← c.self.view_is)
    (progress-unmasked r c.args.pressed.now c.args.histories.now c.self.inside.edited c.press-edit.new.self c.echo-echo.result c.read_key-key.result c.unmasked.result none c.self.invariant.0 whole drawn c.read_key-key.ensures c.unmasked.ensures)
