-- The program's list changes in its place.
use Rattle.std.proofs.Common.{◌≡◌, ℕ, List, false, Some, None, ap, sym, ◌∙◌}
use Rattle.std.specs.Option.{option_copied_mut}
use Rattle.std.specs.Map.{lookup, set_value}
use Rattle.con_alias.specs.Aliases.{is_no_source}
use Rattle.con_alias.proofs.Lists.{Lists, sought}
use Rattle.con_alias.proofs.Tables.{removed-found, removed-none, remove_answer-found, remove_answer-none}
use Rattle.con_alias.proofs.aliases.Aliases.remove.Goals as goal

pub returns-in-Some-clause-aliases : goal.returns-in-Some-clause-aliases
returns-in-Some-clause-aliases c =
    let es : Lists = c.self.inside.programs.entries in
    let p : List ℕ = c.args.program.now in
    let u : List ℕ = c.as_slice-units.result.now in
    let good : is_no_source u ≡ false = sym c.is_no_source.ensures ∙ c.if-is_no_source.false in
    let found : lookup (sought p) es ≡ Some c.in-Some.list.now = ap (λ q. lookup (sought q) es) (sym c.as_slice.ensures) ∙ sym c.get_mut.ensures.value ∙ ap option_copied_mut c.in-Some.is in
    let w = c.remove.new.self in
    let laid : (c.get_mut.follows.lender w).entries ≡ set_value (sought p) es w = (c.get_mut.follows.holds w).0 ∙ ap (λ q. set_value (sought q) es w) c.as_slice.ensures in
    rw (← c.self.view_is, ← c.as_slice-units.ensures) (removed-found es (c.get_mut.follows.lender w).entries c.self.inside.spare p u c.in-Some.list.now w good found laid c.remove.ensures.list)

pub returns-in-Some-clause-answer : goal.returns-in-Some-clause-answer
returns-in-Some-clause-answer c =
    let es : Lists = c.self.inside.programs.entries in
    let p : List ℕ = c.args.program.now in
    let u : List ℕ = c.as_slice-units.result.now in
    let good : is_no_source u ≡ false = sym c.is_no_source.ensures ∙ c.if-is_no_source.false in
    let found : lookup (sought p) es ≡ Some c.in-Some.list.now = ap (λ q. lookup (sought q) es) (sym c.as_slice.ensures) ∙ sym c.get_mut.ensures.value ∙ ap option_copied_mut c.in-Some.is in
    rw (← c.self.view_is, ← c.as_slice-units.ensures) (c.answer.ensures ∙ remove_answer-found es p u c.in-Some.list.now c.remove.result good found c.remove.ensures.found)

pub returns-clause-aliases : goal.returns-clause-aliases
returns-clause-aliases c =
    let es : Lists = c.self.inside.programs.entries in
    let p : List ℕ = c.args.program.now in
    let u : List ℕ = c.as_slice-units.result.now in
    let good : is_no_source u ≡ false = sym c.is_no_source.ensures ∙ c.if-is_no_source.false in
    let none : lookup (sought p) es ≡ None = ap (λ q. lookup (sought q) es) (sym c.as_slice.ensures) ∙ sym c.get_mut.ensures.value ∙ ap option_copied_mut c.in_default.is in
    rw (← c.self.view_is, ← c.as_slice-units.ensures, c.get_mut.follows.holds-at-none) (removed-none es c.self.inside.spare p u good none)

pub returns-clause-answer : goal.returns-clause-answer
returns-clause-answer c =
    let es : Lists = c.self.inside.programs.entries in
    let p : List ℕ = c.args.program.now in
    let u : List ℕ = c.as_slice-units.result.now in
    let good : is_no_source u ≡ false = sym c.is_no_source.ensures ∙ c.if-is_no_source.false in
    let none : lookup (sought p) es ≡ None = ap (λ q. lookup (sought q) es) (sym c.as_slice.ensures) ∙ sym c.get_mut.ensures.value ∙ ap option_copied_mut c.in_default.is in
    rw (← c.self.view_is, ← c.as_slice-units.ensures) (remove_answer-none es p u good none)
