use Rattle.std.proofs.Common.{◌≡◌, ◌∙◌, ◌<◌, [], rules, sym, arith, get_or, length}
use Rattle.std.proofs.lemmas.Bool.Decides.{nat_tests}
use Rattle.con_link.proofs.Pieces.{size_is, four, gap_after, size_begun, failed_gap}
use Rattle.con_link.specs.declared.fill.Filled.TheVariants.{Full}
use Rattle.con_link.proofs.reader.resize_frame.Goals as goal

pub returns-clause-took : goal.returns-clause-took
returns-clause-took g c =
    let t = c.in-Full.ensures.took in
    let buf = c.fill.new.buf in
    let long : length buf ≡ 4 = search rules in
    let b : get_or buf 1 0 < 256 = c.number-w.ensures.low in
    let d : get_or buf 3 0 < 256 = c.number-h.ensures.low in
    let is = size_is t.0 (get_or buf 0 0) (get_or buf 1 0) (get_or buf 2 0) (get_or buf 3 0) c.number-w.result c.number-h.result (sym t.3.0 ∙ four buf long) b d c.number-w.ensures.value c.number-h.ensures.value in
    (t.0, t.1, t.2, (is, grind (arith, nat_tests), tt, omega (arith, t.2, t.3.1, c.requires.at)))

pub returns-in_default : goal.returns-in_default
returns-in_default g c =
    let t = c.fill.ensures.took in
    let long : length c.fill.new.buf ≡ 4 = search rules in
    let not_full : c.fill.result ≡ Full → ⊥ = c.in_default.not-Full in
    record {
      took = (
        t.0,
        t.1,
        t.2,
        rw c.fault_of.ensures (gap_after 82 [] c.fill.result t.0 c.fill.new.buf c.args.place c.fill.new.taken _ not_full t.3
            (omega (arith, t.2, c.requires.at)) (λ front less. size_begun front (omega (arith, less, long)))),
      );
      failed = λ e. c.fill.ensures.failed (failed_gap c.fill.result c.args.place c.fault_of.result not_full c.fault_of.ensures e);
      never_falls = c.fill.ensures.never_falls;
    }
