use Rattle.std.proofs.Common.{rules, ℕ, ◌+◌, ◌<◌, ◌≡◌, List, Some, All, length, refl, sym, subst, arith}
use Rattle.std.proofs.lemmas.Option.{slice_get_read}
use Rattle.std.specs.Prelude.{slice_get}
use Rattle.std.specs.Vec.Iter.{into_iter_items}
use Rattle.con_run.proofs.Crewing.{down_below, seated_last, seated_next}
use Rattle.con_run.proofs.crew.crew.Goals as goal

pub client-requires-clause-below : goal.client-requires-clause-below
client-requires-clause-below g c =
    let k = c.loop-seat.invariant in
    let less : length c.loop-seat.crew.items < c.loop-seat.at + 1 = omega (arith, k.at) in
    subst (λ (l : List ℕ). All (λ a. a < c.loop-seat.at + 1) l) (sym k.seated.opening'.made')
    (down_below (length c.loop-seat.crew.items) (c.loop-seat.at + 1) less)

pub loop-seat-preserved : goal.loop-seat-preserved
loop-seat-preserved g c =
    let k = c.loop-seat.invariant in
    let len : c.loop-seat.at ≡ length c.loop-seat.crew.items = omega (arith, k.at) in
    let inside : c.loop-seat.at < length c.args.scripts.now = search rules in
    let read : slice_get c.args.scripts.now c.loop-seat.at ≡ Some c.index-scripts-at.result =
    slice_get_read c.args.scripts.now (length c.args.scripts.now) c.loop-seat.at c.index-scripts-at.result refl inside c.index-scripts-at.is in
    record {
      at = search rules;
      count = search rules;
      room = search rules;
      seated =
          seated_next _ _ _ _ _ _ c.loop-seat.opening c.client.new.opening c.loop-seat.crew.items c.push_reserved.new.self.items
          (into_iter_items c.loop-seat.seat-iterator) (into_iter_items c.next.new.self) c.client.result c.in-Some.seat c.loop-seat.at
          (c.loop-seat.at + 1) c.index-scripts-at.result
          (search rules) c.client.ensures.seat len refl read c.push_reserved.ensures.items c.client.ensures.book c.client.ensures.opening
          c.client.ensures.client k.seated;
    }

pub returns-clause-seats : goal.returns-clause-seats
returns-clause-seats g c =
    let k = c.loop-seat.invariant in
    let len : length c.loop-seat.crew.items ≡ length c.args.seats.items = omega (arith, k.count, c.in-None.ensures.steps.0, c.requires.scripts) in
    seated_last _ _ _ _ _ _ c.loop-seat.opening c.loop-seat.crew.items (into_iter_items c.loop-seat.seat-iterator) len k.seated
