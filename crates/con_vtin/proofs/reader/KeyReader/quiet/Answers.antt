use Rattle.std.proofs.Common.{◌≡◌, ℕ, List, [], ◌++◌, true, subst, arith, rules}
use Rattle.con_vtin.specs.Holding.{is_text, IsApart}
use Rattle.con_vtin.specs.Keys.{quieted}
use Rattle.con_vtin.proofs.TextLemmas.{text_is_short}
use Rattle.con_vtin.proofs.SentLemmas.{quiet_short}
use Rattle.con_vtin.proofs.reader.KeyReader.quiet.Goals as goal

pub push_replacements-requires : goal.push_replacements-requires
push_replacements-requires c =
    let none : c.self.inside.sequence ≡ [] = search rules in
    let P : List ℕ → Type 0 = λ bytes. IsApart bytes c.self.inside.text in
    let text : is_text c.self.inside.text ≡ true = subst P none c.self.invariant in
    omega (arith, text_is_short c.self.inside.text text, c.held.ensures, c.requires)

pub returns-then-is_empty-clause-units : goal.returns-then-is_empty-clause-units
returns-then-is_empty-clause-units c = λ cursor_keys.
    let is : c.push_replacements.new.out.items ≡ c.args.out.now.items ++ quieted c.args.self.now.held = search rules in
    quiet_short c.args.out.now.items c.push_replacements.new.out.items c.args.self.now.held cursor_keys is

pub returns-else-is_empty-clause-units : goal.returns-else-is_empty-clause-units
returns-else-is_empty-clause-units c = λ cursor_keys.
    let is : c.push_broken.new.out.items ≡ c.args.out.now.items ++ quieted c.args.self.now.held = search rules in
    quiet_short c.args.out.now.items c.push_broken.new.out.items c.args.self.now.held cursor_keys is
