-- One record more, or the end.
use Rattle.std.proofs.Common.{rules, ◌∙◌, arith, vec_len}
use Rattle.con_readers.proofs.Units.{units_more, rest_more, units_skip, rest_skip, units_full, rest_full, units_end, rest_end, queue_is}
use Rattle.con_readers.proofs.wants_units.take_units.Goals as goal

pub loop-records-preserved-then-unit-ne0 : goal.loop-records-preserved-then-unit-ne0
loop-records-preserved-then-unit-ne0 c = record {
  units = units_more c.args.n (vec_len c.loop-records.out) _ c.unit_of-unit.result c.loop-records.out.items _ _ c.in-Some.one c.loop-records.records.items _ (omega arith) c.push_reserved.ensures.len c.in-Some.ensures.items c.unit_of-unit.ensures c.if-unit-ne0.true c.push_reserved.ensures.items c.loop-records.invariant.units;
  rest = rest_more c.args.n (vec_len c.loop-records.out) _ c.unit_of-unit.result _ c.in-Some.one c.loop-records.records.items _ (omega arith) c.push_reserved.ensures.len c.in-Some.ensures.items c.unit_of-unit.ensures c.if-unit-ne0.true c.loop-records.invariant.rest;
  spare = search rules;
  room = c.push_reserved.ensures.capacity ∙ c.loop-records.invariant.room;
}

pub loop-records-preserved : goal.loop-records-preserved
loop-records-preserved c = record {
  units = units_skip c.args.n (vec_len c.loop-records.out) c.loop-records.out.items _ c.in-Some.one c.loop-records.records.items _ (omega arith) c.in-Some.ensures.items (search rules) c.loop-records.invariant.units;
  rest = rest_skip c.args.n (vec_len c.loop-records.out) _ c.in-Some.one c.loop-records.records.items _ (omega arith) c.in-Some.ensures.items (search rules) c.loop-records.invariant.rest;
  spare = search rules;
  room = c.loop-records.invariant.room;
}

pub returns-after-loop-records-clause-out : goal.returns-after-loop-records-clause-out
returns-after-loop-records-clause-out c = units_full c.args.n (vec_len c.loop-records.out) c.loop-records.out.items _ c.loop-records.records.items (omega arith) c.loop-records.invariant.units

pub returns-after-loop-records-clause-rest : goal.returns-after-loop-records-clause-rest
returns-after-loop-records-clause-rest c = queue_is c.loop-records.records _ _ (rest_full c.args.n (vec_len c.loop-records.out) _ c.loop-records.records.items (omega arith) c.loop-records.invariant.rest) c.loop-records.invariant.spare

pub returns-in_default-clause-out : goal.returns-in_default-clause-out
returns-in_default-clause-out c = units_end _ c.loop-records.out.items _ c.loop-records.records.items c.in_default.ensures.none.0 c.loop-records.invariant.units

pub returns-in_default-clause-rest : goal.returns-in_default-clause-rest
returns-in_default-clause-rest c = queue_is c.pop.new.self _ _ (c.in_default.ensures.none.1 ∙ rest_end _ _ c.loop-records.records.items c.in_default.ensures.none.0 c.loop-records.invariant.rest) (search rules)
