use Rattle.std.proofs.Common.{rules, ◌+◌}
use Rattle.tests_book.proofs.sixteen.dismissed.Goals as goal

pub loop-member-init : goal.loop-member-init
loop-member-init c =
    let began = c.into_iter-member-iterator.ensures.into_iter_gives in
    record { book = search rules; opens = search rules; counted = grind rules; rest = λ k d below. let h = c.requires.crew k d in grind rules }

pub join-requires-clause-book : goal.join-requires-clause-book
join-requires-clause-book c =
    let was = c.loop-member.invariant in let step = c.in-Some.ensures.steps in let h = was.rest 0 c.in-Some.member in grind rules

pub loop-member-preserved : goal.loop-member-preserved
loop-member-preserved c =
    let was = c.loop-member.invariant in let step = c.in-Some.ensures.steps in
    record { book = search rules; opens = search rules; counted = grind rules; rest = λ k d below. let h = was.rest (k + 1) d in grind rules }

pub close-log-requires-clause-book : goal.close-log-requires-clause-book
close-log-requires-clause-book c = let was = c.loop-member.invariant in search rules

pub close-log-requires-clause-opening : goal.close-log-requires-clause-opening
close-log-requires-clause-opening c = let was = c.loop-member.invariant in search rules

pub close-log-requires-clause-whole : goal.close-log-requires-clause-whole
close-log-requires-clause-whole c =
    let was = c.loop-member.invariant in let step = c.in-None.ensures.steps in grind rules
