use Rattle.std.proofs.Common.{◌∙◌, ◌++◌, ◌∷◌, [], ap, sym, refl, arith, length, ◌<◌, ◌≤◌}
use Rattle.con_vtin.proofs.TextLemmas.{escape_after_text, cut_some, cut_none}
use Rattle.con_vtin.proofs.Lists.{append_none}
use Rattle.con_vtin.proofs.reader.feed_text.Goals as goal
use Rattle.con_vtin.proofs.reader.feed_text.Goals.{then-held-gt0, else-held-gt0}

pub returns-after-held-gt0-clause-keys : goal.returns-after-held-gt0-clause-keys
returns-after-held-gt0-clause-keys c = rw (c.if-byte-eq27.true, escape_after_text c.args.text.now c.requires.text) (elim c.if-held-gt0.branch [
  | then-held-gt0 w ↦ let some : 0 < length c.args.text.now = omega (arith, c.held.ensures, w.if-held-gt0.true) in
      rw (w.out-is, cut_some c.args.text.now some) (w.push_reserved.ensures.items ∙ ap (λ k. c.args.out.now.items ++ k ∷ []) w.replacement.ensures)
  | else-held-gt0 w ↦ let none : length c.args.text.now ≤ 0 = omega (arith, c.held.ensures, w.if-held-gt0.false) in
      rw (w.out-is, cut_none c.args.text.now none) (sym (append_none c.args.out.now.items))
])

pub returns-after-held-gt0-clause-tail : goal.returns-after-held-gt0-clause-tail
returns-after-held-gt0-clause-tail c = rw (c.if-byte-eq27.true, escape_after_text c.args.text.now c.requires.text, c.begin.ensures) refl
