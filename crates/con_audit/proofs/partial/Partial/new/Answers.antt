-- A blank page, of which nothing is known.
use Rattle.std.proofs.Common.{false, refl}
use Rattle.con_audit.proofs.MarkLemmas.{begins, first_tied, first_unknown}
use Rattle.con_audit.proofs.partial.Partial.new.Goals as goal

pub invariant_of-result : goal.invariant_of-result
invariant_of-result c = record {
  marks = first_tied c.args.size.w c.args.size.h c.in_ok-page.page c.apply.new.self (record { pen = false; visible = false; cursor = false }) refl c.in_ok-page.ensures
      (begins c.args.size.w c.args.size.h c.in_ok-marks.marks c.forget.new.marks c.apply.new.self c.shade.result c.in_ok-marks.ensures c.forget.ensures c.shade.ensures c.apply.ensures);
}

pub returns : goal.returns
returns c = first_unknown c.args.size.w c.args.size.h c.in_ok-page.page c.apply.new.self c.new-4.result c.in_ok-units.units.tail c.in_ok-page.ensures
    (begins c.args.size.w c.args.size.h c.in_ok-marks.marks c.forget.new.marks c.apply.new.self c.shade.result c.in_ok-marks.ensures c.forget.ensures c.shade.ensures c.apply.ensures)
    c.new-4.ensures c.in_ok-units.ensures.tail
