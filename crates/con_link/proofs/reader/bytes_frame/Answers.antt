use Rattle.std.proofs.Common.{◌≡◌, ◌∙◌, ◌++◌, ◌<◌, ◌≤◌, [], rules, sym, arith, get_or, length, length-append, IsTrue, take_at, drop}
use Rattle.std.proofs.lemmas.Bool.Decides.{nat_tests}
use Rattle.con_outside.specs.Laws.{then_left-more}
use Rattle.con_link.specs.declared.fill.Filled.TheVariants.{Full}
use Rattle.con_link.specs.Frames.{is_length}
use Rattle.con_link.proofs.Pieces.{bytes_are, gap_after, bytes_begun, bytes_cut, pair, failed_gap, rose_later}
use Rattle.con_link.proofs.reader.bytes_frame.Goals as goal

pub returns-in-Full-fill-clause-took : goal.returns-in-Full-fill-clause-took
returns-in-Full-fill-clause-took g c =
    let t = c.in-Full.ensures.took in
    let u = c.in-Full-fill.ensures.took in
    let buf = c.fill.new.buf in
    let b : get_or buf 1 0 < 256 = c.number-n.ensures.low in
    let long : length buf ≡ 2 = search rules in
    let all = take_at c.fill-2.new.buf (drop (length c.fill-2.new.buf) c.in-Ok.bytes.items) c.in-Ok.bytes.len (search rules) ∙ u.3.0 in
    let count : length u.0 ≡ c.number-n.result = rw (← u.3.0) (search rules) in
    let test : IsTrue (is_length c.number-n.result) = grind (arith, nat_tests) in (
      t.0 ++ u.0,
      then_left-more t.0 u.0 _ _ _ t.1 u.1,
      omega (arith, t.2, u.2, length-append t.0 u.0),
      (
        rw all (bytes_are t.0 u.0 (get_or buf 0 0) (get_or buf 1 0) c.number-n.result (sym t.3.0 ∙ pair buf long) b c.number-n.ensures.value count),
        rw (all, count) test,
        tt,
        omega (arith, t.2, u.2, u.3.1, length-append t.0 u.0, c.requires.at),
      ),
    )

pub returns-in_default-fill : goal.returns-in_default-fill
returns-in_default-fill g c =
    let t = c.in-Full.ensures.took in
    let u = c.fill-2.ensures.took in
    let buf = c.fill.new.buf in
    let long : length buf ≡ 2 = search rules in
    let size : length t.0 ≡ 2 = rw (← t.3.0) long in
    let count : length c.fill-2.new.buf ≡ c.number-n.result = search rules in
    let some : 0 < c.number-n.result = omega arith in
    let few : c.number-n.result ≤ 4096 = omega arith in
    let not_full : c.fill-2.result ≡ Full → ⊥ = c.in_default-fill.not-Full in
    record {
      took = (
        t.0 ++ u.0,
        then_left-more t.0 u.0 _ _ _ t.1 u.1,
        omega (arith, t.2, u.2, length-append t.0 u.0),
        rw c.fault_of-in_default-fill.ensures (gap_after 66 t.0 c.fill-2.result u.0 c.fill-2.new.buf c.args.place c.fill-2.new.taken _
            not_full u.3 (omega (arith, t.2, u.2, size, c.requires.at))
            (λ front less. bytes_cut t.0 front (get_or buf 0 0) (get_or buf 1 0) c.number-n.result (sym t.3.0 ∙ pair buf long) c.number-n.ensures.value some few (omega (arith, less, count)))),
      );
      failed = λ e. rose_later _ _ _ c.fill.ensures.never_falls (c.fill-2.ensures.failed (failed_gap c.fill-2.result c.args.place c.fault_of-in_default-fill.result not_full c.fault_of-in_default-fill.ensures e));
      never_falls = omega (arith, c.fill.ensures.never_falls, c.fill-2.ensures.never_falls);
    }

pub returns-in_default : goal.returns-in_default
returns-in_default g c =
    let t = c.fill.ensures.took in
    let long : length c.fill.new.buf ≡ 2 = search rules in
    let not_full : c.fill.result ≡ Full → ⊥ = c.in_default.not-Full in
    record {
      took = (
        t.0,
        t.1,
        t.2,
        rw c.fault_of.ensures (gap_after 66 [] c.fill.result t.0 c.fill.new.buf c.args.place c.fill.new.taken _ not_full t.3
            (omega (arith, t.2, c.requires.at)) (λ front less. bytes_begun front (omega (arith, less, long)))),
      );
      failed = λ e. c.fill.ensures.failed (failed_gap c.fill.result c.args.place c.fault_of.result not_full c.fault_of.ensures e);
      never_falls = c.fill.ensures.never_falls;
    }
