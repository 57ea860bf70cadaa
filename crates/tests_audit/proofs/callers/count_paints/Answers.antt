-- One more, or not.
use Rattle.std.proofs.Common.{◌≡◌, ℕ, ◌+◌, ◌<◌, ◌≤◌, Bool, true, false, List, length, get_or, drop, sym, ap, ◌∙◌, arith}
use Rattle.std.specs.Prelude.{if◌then◌else◌}
use Rattle.std.proofs.lemmas.List.{at_drop_more, at_drop_all}
use Rattle.con_events.specs.declared.entry.Entry.{Entry}
use Rattle.con_machine.specs.Turns.{is_paint, paints}
use Rattle.tests_audit.proofs.callers.count_paints.Goals as goal

abbrev one : Bool → ℕ
one b = if b then 1 else 0

most_one : (b : Bool) → one b ≤ 1
most_one true = omega arith
most_one false = omega arith

paints_next : (xs : List Entry) (k : ℕ) (x : Entry) → k < length xs → x ≡ get_or xs k x → paints (drop k xs) ≡ one (is_paint x.event) + paints (drop (k + 1) xs)
paints_next xs k x lt e = at_drop_more paints xs k x lt ∙ ap (λ (y : Entry). one (is_paint y.event) + paints (drop (k + 1) xs)) (sym e)

counted : (count one k b here next all : ℕ) → count + here ≡ all → here ≡ b + next → one ≡ b → count + one + next ≡ all
counted count one k b here next all e f g = omega arith

pub overflow_add-count : goal.overflow_add-count
overflow_add-count c =
    let few = most_one (is_paint c.entry-item.result.event) in
    let is : c.as_paint-count.result ≡ one (is_paint c.entry-item.result.event) = c.as_paint-count.ensures in
    omega (arith, few, is, c.loop-entry.invariant.1)

pub loop-entry-preserved : goal.loop-entry-preserved
loop-entry-preserved c =
    let x = c.entry-item.result in
    let few = most_one (is_paint x.event) in
    let is : c.as_paint-count.result ≡ one (is_paint x.event) = c.as_paint-count.ensures in (
      counted c.loop-entry.count c.as_paint-count.result c.loop-entry.entry-index (one (is_paint x.event)) _ _ _ c.loop-entry.invariant.0
          (paints_next c.args.entries.now c.loop-entry.entry-index x c.loop-entry-test.true c.entry-item.is) is,
      omega (arith, few, is, c.loop-entry.invariant.1),
    )

pub returns : goal.returns
returns c = omega (arith, at_drop_all paints c.args.entries.now c.loop-entry.entry-index (omega arith), c.loop-entry.invariant.0)
