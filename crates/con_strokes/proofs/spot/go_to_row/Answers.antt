-- A row and then a column of it, or one sequence.
use Rattle.std.proofs.Common.{refl, false}
use Rattle.con_term.specs.Page.{Page}
use Rattle.con_strokes.proofs.LeadLemmas.{leads_then}
use Rattle.con_strokes.proofs.SpotLemmas.{gone}
use Rattle.con_strokes.proofs.spot.go_to_row.Goals as goal

pub returns-then-is_begun-clause-leads : goal.returns-then-is_begun-clause-leads
returns-then-is_begun-clause-leads c = λ s inside at.
    let t : Page = record s { x = 0; y = c.args.y; pending = false } in
    leads_then _ _ _ s t (record s { x = c.args.x; y = c.args.y; pending = false }) 0 0 0 (c.begin_row.ensures.leads s inside.1 at) (c.go_in_row.ensures.leads t inside (record { at = λ _. (refl, refl, refl) })) refl

pub returns-then-is_straight-clause-leads : goal.returns-then-is_straight-clause-leads
returns-then-is_straight-clause-leads c = λ s inside at.
    let t : Page = record s { y = c.args.y; pending = false } in
    leads_then _ _ _ s t (record s { x = c.args.x; y = c.args.y; pending = false }) 0 0 0 (c.go_straight.ensures.leads s inside.1 at) (c.go_in_row-then-is_straight.ensures.leads t inside (record { at = λ _. ((at.at c.requires.known).0, refl, refl) })) refl

pub returns-else-is_straight-clause-leads : goal.returns-else-is_straight-clause-leads
returns-else-is_straight-clause-leads c = λ s inside at. gone _ _ s c.args.x c.args.y inside (c.go_to.ensures.leads s)
