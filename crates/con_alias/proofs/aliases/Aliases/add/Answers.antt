-- The program's list changes in its place, or a new one goes last.
use Rattle.std.proofs.Common.{◌≡◌, ◌++◌, ◌<◌, ℕ, List, [], ◌∷◌, Bool, false, Option, Some, None, is_some, Vec, OnOk, ap, sym, subst, ◌∙◌, true≢false, arith}
use Rattle.std.specs.declared.alloc.Global.{Global}
use Rattle.std.specs.Option.{option_copied_mut, option_map}
use Rattle.std.specs.Map.{lookup, set_value}
use Rattle.indexmap.specs.IndexMap.{insert_entry, spare as map_spare}
use Rattle.indexmap.proofs.CallerLemmas.{insert_entry-new}
use Rattle.con_units.specs.Words.Units.{same_units}
use Rattle.con_alias.specs.Aliases.{AliasList, is_bad}
use Rattle.con_alias.specs.Words.Aliases.{entry_of, empty_list, is_known}
use Rattle.con_alias.specs.Room.{AliasTable, Prepared, Listed, listed, has_room}
use Rattle.con_alias.proofs.Lists.{Lists, sought, known-found, known-none, room-found, room-none, same_some}
use Rattle.con_alias.proofs.Tables.{added-found, added-none, add_answer-found, add_answer-none, room_for-new, room_for-list}
use Rattle.con_alias.proofs.aliases.Aliases.add.Goals as goal

pub add-requires : goal.add-requires
add-requires c =
    let es : Lists = c.self.inside.programs.entries in
    let p : List ℕ = c.args.program.now in
    let found : lookup (sought p) es ≡ Some c.in-Some-get_mut.list.now = ap (λ q. lookup (sought q) es) (sym c.as_slice.ensures) ∙ sym c.get_mut.ensures.value ∙ ap option_copied_mut c.in-Some-get_mut.is in
    room-found es c.self.inside.spare p c.in-Some-get_mut.list.now found (ap (λ (s : AliasTable). has_room s.places p) c.self.view_is ∙ c.requires.ready)

pub returns-in-Some-get_mut-clause-aliases : goal.returns-in-Some-get_mut-clause-aliases
returns-in-Some-get_mut-clause-aliases c =
    let es : Lists = c.self.inside.programs.entries in
    let p : List ℕ = c.args.program.now in
    let source : List ℕ = c.args.source.now in
    let target : List ℕ = c.args.target.now in
    let was : Listed = c.in-Some-get_mut.list.now in
    let found : lookup (sought p) es ≡ Some was = ap (λ q. lookup (sought q) es) (sym c.as_slice.ensures) ∙ sym c.get_mut.ensures.value ∙ ap option_copied_mut c.in-Some-get_mut.is in
    let good : is_bad p source target ≡ false = sym c.refused.ensures.refused ∙ c.if-refused.false in
    let has : c.args.room.new ≡ Some c.in-Some.new = sym (ap (λ (r : Prepared). r.new) c.room.view_is) ∙ c.in-Some.is in
    let entry : c.in-Some.new ≡ entry_of source target = room_for-new c.args.self.now.programs p source target c.args.room c.in-Some.new good c.requires.room has in
    let w : Listed = c.add.new.self in
    let laid : (c.get_mut.follows.lender w).entries ≡ set_value (sought p) es w = (c.get_mut.follows.holds w).0 ∙ ap (λ q. set_value (sought q) es w) c.as_slice.ensures in
    rw (← c.self.view_is) (added-found es (c.get_mut.follows.lender w).entries p source target was w c.in-Some.new good (known-found es p was found) entry found laid c.add.ensures.list)

pub returns-in-Some-get_mut-clause-refused : goal.returns-in-Some-get_mut-clause-refused
returns-in-Some-get_mut-clause-refused c =
    let es : Lists = c.self.inside.programs.entries in
    let p : List ℕ = c.args.program.now in
    let source : List ℕ = c.args.source.now in
    let target : List ℕ = c.args.target.now in
    let was : Listed = c.in-Some-get_mut.list.now in
    let found : lookup (sought p) es ≡ Some was = ap (λ q. lookup (sought q) es) (sym c.as_slice.ensures) ∙ sym c.get_mut.ensures.value ∙ ap option_copied_mut c.in-Some-get_mut.is in
    let good : is_bad p source target ≡ false = sym c.refused.ensures.refused ∙ c.if-refused.false in
    let has : c.args.room.new ≡ Some c.in-Some.new = sym (ap (λ (r : Prepared). r.new) c.room.view_is) ∙ c.in-Some.is in
    let entry : c.in-Some.new ≡ entry_of source target = room_for-new c.args.self.now.programs p source target c.args.room c.in-Some.new good c.requires.room has in
    rw (← c.self.view_is) (c.answer.ensures ∙ add_answer-found es p source target was c.add.result c.in-Some.new good entry found c.add.ensures.answer)

pub unreachable-requires-in_default-list : goal.unreachable-requires-in_default-list
unreachable-requires-in_default-list c =
    let es : Lists = c.self.inside.programs.entries in
    let p : List ℕ = c.args.program.now in
    let source : List ℕ = c.args.source.now in
    let target : List ℕ = c.args.target.now in
    let none : lookup (sought p) es ≡ None = ap (λ q. lookup (sought q) es) (sym c.as_slice.ensures) ∙ sym c.get_mut.ensures.value ∙ ap option_copied_mut c.in_default-get_mut.is in
    let good : is_bad p source target ≡ false = sym c.refused.ensures.refused ∙ c.if-refused.false in
    let fresh : is_known c.args.self.now.programs p ≡ false = ap (λ (s : AliasTable). is_known s.programs p) (sym c.self.view_is) ∙ known-none es p none in
    let list : c.args.room.list ≡ Some (empty_list p) = room_for-list c.args.self.now.programs p source target c.args.room good fresh c.requires.room in
    let gone = ap (λ (o : Option (Vec ℕ Global × Listed)). is_some (option_map (λ (q : Vec ℕ Global × Listed). listed q.0.items q.1) o)) c.in_default-list.is in
    true≢false (sym (ap (λ (r : Prepared). is_some r.list) c.room.view_is ∙ ap is_some list) ∙ gone)

pub unwrap-requires : goal.unwrap-requires
unwrap-requires c =
    let es : Lists = c.self.inside.programs.entries in
    let p : List ℕ = c.args.program.now in
    let none : lookup (sought p) es ≡ None = ap (λ q. lookup (sought q) es) (sym c.as_slice.ensures) ∙ sym c.get_mut.ensures.value ∙ ap option_copied_mut c.in_default-get_mut.is in
    let some : 0 < c.self.inside.spare = room-none es c.self.inside.spare p none (ap (λ (s : AliasTable). has_room s.places p) c.self.view_is ∙ c.requires.ready) in
    let there : 0 < map_spare c.self.inside.programs = omega (arith, some, c.self.invariant) in
    c.insert.ensures.succeeds (rw c.get_mut.follows.holds-at-none there)

pub overflow_sub-self : goal.overflow_sub-self
overflow_sub-self c =
    let es : Lists = c.self.inside.programs.entries in
    let p : List ℕ = c.args.program.now in
    let none : lookup (sought p) es ≡ None = ap (λ q. lookup (sought q) es) (sym c.as_slice.ensures) ∙ sym c.get_mut.ensures.value ∙ ap option_copied_mut c.in_default-get_mut.is in
    room-none es c.self.inside.spare p none (ap (λ (s : AliasTable). has_room s.places p) c.self.view_is ∙ c.requires.ready)

pub returns-clause-aliases : goal.returns-clause-aliases
returns-clause-aliases c =
    let es : Lists = c.self.inside.programs.entries in
    let p : List ℕ = c.args.program.now in
    let source : List ℕ = c.args.source.now in
    let target : List ℕ = c.args.target.now in
    let none : lookup (sought p) es ≡ None = ap (λ q. lookup (sought q) es) (sym c.as_slice.ensures) ∙ sym c.get_mut.ensures.value ∙ ap option_copied_mut c.in_default-get_mut.is in
    let good : is_bad p source target ≡ false = sym c.refused.ensures.refused ∙ c.if-refused.false in
    let has : c.args.room.new ≡ Some c.in-Some.new = sym (ap (λ (r : Prepared). r.new) c.room.view_is) ∙ c.in-Some.is in
    let entry : c.in-Some.new ≡ entry_of source target = room_for-new c.args.self.now.programs p source target c.args.room c.in-Some.new good c.requires.room has in
    let fresh : is_known c.args.self.now.programs p ≡ false = ap (λ (s : AliasTable). is_known s.programs p) (sym c.self.view_is) ∙ known-none es p none in
    let key : Vec ℕ Global = c.in-Some-list.program in
    let empty : listed key.items c.in-Some-list.list ≡ empty_list p =
    same_some (ap (option_map (λ (q : Vec ℕ Global × Listed). listed q.0.items q.1)) (sym c.in-Some-list.is) ∙ ap (λ (r : Prepared). r.list) c.room.view_is ∙ room_for-list c.args.self.now.programs p source target c.args.room good fresh c.requires.room) in
    let w : Listed = c.add-2.new.self in
    let named : key.items ≡ p = ap (λ (l : AliasList). l.program) empty in
    let same : Vec ℕ Global → Vec ℕ Global → Bool = λ a b. same_units a.items b.items in
    let old : c.get_mut.follows.lender-at-none.entries ≡ es = ap (λ m. m.entries) c.get_mut.follows.holds-at-none in
    let put : c.insert.new.self.entries ≡ insert_entry same c.get_mut.follows.lender-at-none.entries key w =
    subst (λ r. OnOk r (c.insert.new.self.entries ≡ insert_entry same c.get_mut.follows.lender-at-none.entries key w)) c.unwrap.ensures c.insert.ensures.entries in
    let laid : c.insert.new.self.entries ≡ es ++ (key, w) ∷ [] =
    put ∙ ap (λ l. insert_entry same l key w) old ∙ insert_entry-new same c.self.inside.programs key w (ap (λ q. lookup (sought q) es) named ∙ none) in
    rw (← c.self.view_is) (added-none es c.insert.new.self.entries p source target key c.in-Some-list.list w c.in-Some.new good entry none laid empty c.add-2.ensures.list)

pub returns-clause-refused : goal.returns-clause-refused
returns-clause-refused c =
    let es : Lists = c.self.inside.programs.entries in
    let p : List ℕ = c.args.program.now in
    let good : is_bad p c.args.source.now c.args.target.now ≡ false = sym c.refused.ensures.refused ∙ c.if-refused.false in
    let none : lookup (sought p) es ≡ None = ap (λ q. lookup (sought q) es) (sym c.as_slice.ensures) ∙ sym c.get_mut.ensures.value ∙ ap option_copied_mut c.in_default-get_mut.is in
    rw (← c.self.view_is) (add_answer-none es p c.args.source.now c.args.target.now good none)
