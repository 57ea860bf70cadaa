-- The program is known or fresh.
use Rattle.std.proofs.Common.{◌≡◌, ℕ, List, true, false, is_some, ap, sym, ◌∙◌}
use Rattle.std.specs.Map.{lookup}
use Rattle.con_alias.specs.Aliases.{is_bad}
use Rattle.con_alias.specs.Words.Aliases.{is_known, empty_list}
use Rattle.con_alias.specs.Room.{lists_of, listed}
use Rattle.con_alias.proofs.Lists.{Lists, sought, known-lists}
use Rattle.con_alias.proofs.Tables.{room-known, room-fresh}
use Rattle.con_alias.proofs.aliases.Aliases.room.Goals as goal

pub returns-then-contains_key : goal.returns-then-contains_key
returns-then-contains_key c =
    let es : Lists = c.self.inside.programs.entries in
    let p : List ℕ = c.args.program.now in
    let good : is_bad p c.args.source.now c.args.target.now ≡ false = sym c.refused.ensures.refused ∙ c.if-refused.false in
    let known : is_known (lists_of es) p ≡ true = known-lists es p ∙ ap (λ q. is_some (lookup (sought q) es)) (sym c.as_slice.ensures) ∙ sym c.contains_key.ensures ∙ c.if-contains_key.true in
    rw (← c.self.view_is) (room-known (lists_of es) p c.args.source.now c.args.target.now c.in_ok-new.new good known c.in_ok-new.ensures)

pub returns : goal.returns
returns c =
    let es : Lists = c.self.inside.programs.entries in
    let p : List ℕ = c.args.program.now in
    let good : is_bad p c.args.source.now c.args.target.now ≡ false = sym c.refused.ensures.refused ∙ c.if-refused.false in
    let fresh : is_known (lists_of es) p ≡ false = known-lists es p ∙ ap (λ q. is_some (lookup (sought q) es)) (sym c.as_slice.ensures) ∙ sym c.contains_key.ensures ∙ c.if-contains_key.false in
    let named : c.into_vec-program.result.items ≡ p = c.into_vec-program.ensures ∙ c.in_ok-copy.ensures in
    let empty : listed c.into_vec-program.result.items c.in_ok-list.list ≡ empty_list p = ap (λ q. listed q c.in_ok-list.list) named ∙ ap (listed p) c.in_ok-list.ensures in
    rw (← c.self.view_is) (room-fresh (lists_of es) p c.args.source.now c.args.target.now c.in_ok-new.new (listed c.into_vec-program.result.items c.in_ok-list.list) good fresh c.in_ok-new.ensures empty)
