-- Room in the program's list, or for one.
use Rattle.std.proofs.Common.{◌≡◌, ℕ, List, Some, None, ap, sym, ◌∙◌}
use Rattle.std.specs.Option.{option_copied_mut}
use Rattle.std.specs.Map.{lookup, set_value}
use Rattle.con_alias.specs.Aliases.{AliasList}
use Rattle.con_alias.specs.Room.{AliasTable, Listed, lists_of, has_room, room_for}
use Rattle.con_alias.proofs.Lists.{Lists, sought, written-same, lists-same, has-found, has-none, on_err}
use Rattle.con_alias.proofs.Tables.{table}
use Rattle.con_alias.proofs.aliases.Aliases.add_room.Goals as goal

pub returns-in_err-add_room-clause-aliases : goal.returns-in_err-add_room-clause-aliases
returns-in_err-add_room-clause-aliases c =
    let es : Lists = c.self.inside.programs.entries in
    let p : List ℕ = c.args.program.now in
    let was : Listed = c.in-Some.list.now in
    let found : lookup (sought p) es ≡ Some was = ap (λ q. lookup (sought q) es) (sym c.as_slice.ensures) ∙ sym c.get_mut.ensures.value ∙ ap option_copied_mut c.in-Some.is in
    let w : Listed = c.add_room.new.self in
    let laid : (c.get_mut.follows.lender w).entries ≡ es =
    (c.get_mut.follows.holds w).0 ∙ ap (λ q. set_value (sought q) es w) c.as_slice.ensures ∙ ap (set_value (sought p) es) c.in_err-add_room.ensures.err ∙ written-same es p was found in
    rw (← c.self.view_is) (ap lists_of laid)

pub returns-in_err-add_room-clause-err : goal.returns-in_err-add_room-clause-err
returns-in_err-add_room-clause-err c =
    let es : Lists = c.self.inside.programs.entries in
    let p : List ℕ = c.args.program.now in
    let was : Listed = c.in-Some.list.now in
    let found : lookup (sought p) es ≡ Some was = ap (λ q. lookup (sought q) es) (sym c.as_slice.ensures) ∙ sym c.get_mut.ensures.value ∙ ap option_copied_mut c.in-Some.is in
    let w : Listed = c.add_room.new.self in
    let laid : (c.get_mut.follows.lender w).entries ≡ es =
    (c.get_mut.follows.holds w).0 ∙ ap (λ q. set_value (sought q) es w) c.as_slice.ensures ∙ ap (set_value (sought p) es) c.in_err-add_room.ensures.err ∙ written-same es p was found in
    rw (← c.self.view_is) (on_err c.from_residual-in_err-add_room.result (ap (λ l. table l c.self.inside.spare) laid))

pub returns-in-Some-clause-room : goal.returns-in-Some-clause-room
returns-in-Some-clause-room c =
    let es : Lists = c.self.inside.programs.entries in
    let p : List ℕ = c.args.program.now in
    let was : Listed = c.in-Some.list.now in
    let found : lookup (sought p) es ≡ Some was = ap (λ q. lookup (sought q) es) (sym c.as_slice.ensures) ∙ sym c.get_mut.ensures.value ∙ ap option_copied_mut c.in-Some.is in
    let w : Listed = c.add_room.new.self in
    let laid : (c.get_mut.follows.lender w).entries ≡ set_value (sought p) es w = (c.get_mut.follows.holds w).0 ∙ ap (λ q. set_value (sought q) es w) c.as_slice.ensures in
    let kept : lists_of (c.get_mut.follows.lender w).entries ≡ lists_of es = ap lists_of laid ∙ lists-same es p was w found (ap (λ (l : Listed). l.entries) c.in_ok-add_room.ensures.ok) in
    c.in_ok-room.ensures
    ∙ ap (λ (s : AliasTable). room_for s.programs p c.args.source.now c.args.target.now) (sym c.self.view_is)
    ∙ ap (λ (ls : List AliasList). room_for ls p c.args.source.now c.args.target.now) (sym kept)

pub returns-in-Some-clause-aliases : goal.returns-in-Some-clause-aliases
returns-in-Some-clause-aliases c =
    let es : Lists = c.self.inside.programs.entries in
    let p : List ℕ = c.args.program.now in
    let was : Listed = c.in-Some.list.now in
    let found : lookup (sought p) es ≡ Some was = ap (λ q. lookup (sought q) es) (sym c.as_slice.ensures) ∙ sym c.get_mut.ensures.value ∙ ap option_copied_mut c.in-Some.is in
    let w : Listed = c.add_room.new.self in
    let laid : (c.get_mut.follows.lender w).entries ≡ set_value (sought p) es w = (c.get_mut.follows.holds w).0 ∙ ap (λ q. set_value (sought q) es w) c.as_slice.ensures in
    rw (← c.self.view_is) (ap lists_of laid ∙ lists-same es p was w found (ap (λ (l : Listed). l.entries) c.in_ok-add_room.ensures.ok))

pub returns-in-Some-clause-ready : goal.returns-in-Some-clause-ready
returns-in-Some-clause-ready c =
    let es : Lists = c.self.inside.programs.entries in
    let p : List ℕ = c.args.program.now in
    let was : Listed = c.in-Some.list.now in
    let found : lookup (sought p) es ≡ Some was = ap (λ q. lookup (sought q) es) (sym c.as_slice.ensures) ∙ sym c.get_mut.ensures.value ∙ ap option_copied_mut c.in-Some.is in
    let w : Listed = c.add_room.new.self in
    let laid : (c.get_mut.follows.lender w).entries ≡ set_value (sought p) es w = (c.get_mut.follows.holds w).0 ∙ ap (λ q. set_value (sought q) es w) c.as_slice.ensures in
    has-found es (c.get_mut.follows.lender w).entries c.self.inside.spare p was w found laid (ap (λ (l : Listed). l.spare) c.in_ok-add_room.ensures.ok)

pub returns-clause-ready : goal.returns-clause-ready
returns-clause-ready c =
    let es : Lists = c.self.inside.programs.entries in
    let p : List ℕ = c.args.program.now in
    let none : lookup (sought p) es ≡ None = ap (λ q. lookup (sought q) es) (sym c.as_slice.ensures) ∙ sym c.get_mut.ensures.value ∙ ap option_copied_mut c.in_default.is in
    ap (λ (s : AliasTable). has_room s.places p) (rw (c.get_mut.follows.holds-at-none) at c.in_ok-list_room.ensures.ok) ∙ has-none es c.self.inside.spare p none
