-- A refused call on aliases leaves them as they are.
use Rattle.std.proofs.Common.{◌≡◌, ◌||◌, Bool, true, false, cond, List, [], ◌∷◌, ◌++◌, ℕ, Option, Some, None, is_some, Ok, Err, refl, sym, ap, ◌∙◌}
use Rattle.std.specs.Prelude.{remove}
use Rattle.std.specs.List.{position_or_len}
use Rattle.con_alias.proofs.Entries.{with-full}
use Rattle.con_alias.proofs.Removal.{removed-first}
use Rattle.con_alias.specs.Aliases.{Entry, AliasList, find_entry, with_entry, is_full, entries_in, changed_in, is_bad, is_no_source, alias_at, added, add_answer, removed, remove_answer}
use Rattle.con_alias.specs.Words.Aliases.{entry_of, without_entry, is_known, is_over}
use Rattle.con_units.specs.Words.Units.{same_units}
use Rattle.con_alias.specs.Aliases.{same_name}
use Rattle.con_units.specs.declared.code.Code.TheVariants as code
use Rattle.con_machine.specs.LineCalls.{added_alias, removed_alias}
use Rattle.con_machine.specs.Outcome.{Outcome, refused, by_answer}
use Rattle.con_machine.specs.State.{State}

abbrev with_entries : AliasList → List Entry → AliasList
with_entries l es = record l { entries = es }

same_step : (b : Bool) (f : List Entry → List Entry) (l : AliasList) (ls r : List AliasList) (rest : List Entry) → f (cond b l.entries rest) ≡ cond b l.entries rest
    → (f rest ≡ rest → r ≡ ls) → cond b (with_entries l (f l.entries) ∷ ls) (l ∷ r) ≡ l ∷ ls
same_step true f l ls r rest same others = ap (λ es. with_entries l es ∷ ls) same
same_step false f l ls r rest same others = ap (λ (xs : List AliasList). l ∷ xs) (others same)

-- a program's aliases that stay leave all as they are
changed-same : (f : List Entry → List Entry) (ls : List AliasList) (program : List ℕ) → f (entries_in ls program) ≡ entries_in ls program → changed_in f ls program ≡ ls
changed-same f [] program same = refl
changed-same f (l ∷ ls) program same =
    same_step (same_units l.program program) f l ls (changed_in f ls program) (entries_in ls program) same (λ rest. changed-same f ls program rest)

without_step : (b : Bool) (e : Entry) (es r : List Entry) (o : Option Entry) → is_some (cond b (Some e) o) ≡ false → (is_some o ≡ false → r ≡ es) → cond b es (e ∷ r) ≡ e ∷ es
without_step true e es r o none others = cc
without_step false e es r o none others = ap (λ (xs : List Entry). e ∷ xs) (others none)

-- without an alias that is not there
without-none : (es : List Entry) (source : List ℕ) → is_some (find_entry es source) ≡ false → without_entry es source ≡ es
without-none [] source none = refl
without-none (e ∷ es) source none =
    without_step (same_name e.source source) e es (without_entry es source) (find_entry es source) none (λ rest. without-none es source rest)

removed_by : (b : Bool) (ls : List AliasList) (program source : List ℕ) → is_some (cond b None (find_entry (entries_in ls program) source)) ≡ false
    → cond b ls (changed_in (λ es. remove es (position_or_len (λ e. same_name e.source source) es)) ls program) ≡ ls
removed_by true ls program source none = refl
removed_by false ls program source none =
    changed-same (λ es. remove es (position_or_len (λ e. same_name e.source source) es)) ls program
    (removed-first (entries_in ls program) source ∙ without-none (entries_in ls program) source none)

removed-none : (ls : List AliasList) (program source : List ℕ) → is_some (alias_at ls program source) ≡ false → removed ls program source ≡ ls
removed-none ls program source none = removed_by (is_no_source source) ls program source none

unknown_step : (b known : Bool) (es rest : List Entry) → (b || known) ≡ false → (known ≡ false → rest ≡ []) → cond b es rest ≡ []
unknown_step true known es rest none others = cc
unknown_step false known es rest none others = others none

unknown-none : (ls : List AliasList) (program : List ℕ) → is_known ls program ≡ false → entries_in ls program ≡ []
unknown-none [] program none = refl
unknown-none (l ∷ ls) program none =
    unknown_step (same_units l.program program) (is_known ls program) l.entries (entries_in ls program) none (λ rest. unknown-none ls program rest)

abbrev with_aliases : State → List AliasList → State
with_aliases s ls = record s { aliases = ls }

open_after : (b : Bool) (s : State) (o : Outcome) → b ≡ false → o.after ≡ (cond b (refused s code.Closed) o).after
open_after true s o is = cc
open_after false s o is = refl

removed_after : (b : Bool) (s : State) (ls : List AliasList) → (b ≡ false → ls ≡ s.aliases) → with_aliases s ls ≡ (by_answer s (cond b (Ok tt) (Err code.NoAlias)) (with_aliases s ls)).after
removed_after true s ls same = refl
removed_after false s ls same = ap (with_aliases s) (same refl)

-- what removing comes to
pub removed_state : (s : State) (program source : List ℕ) (ls : List AliasList) → s.closed ≡ false → ls ≡ removed s.aliases program source
    → with_aliases s ls ≡ (removed_alias s program source).after
removed_state s program source ls is_open is =
    ap (with_aliases s) is
    ∙ removed_after (is_some (alias_at s.aliases program source)) s (removed s.aliases program source) (removed-none s.aliases program source)
    ∙ open_after s.closed s (by_answer s (remove_answer s.aliases program source) (with_aliases s (removed s.aliases program source))) is_open

added_after : (bad known full : Bool) (s : State) (changed pushed : List AliasList) → (full ≡ true → changed ≡ s.aliases) → (known ≡ false → full ≡ false)
    → with_aliases s (cond bad s.aliases (cond known changed pushed)) ≡ (by_answer s (cond bad (Err code.BadArgument) (cond full (Err code.Limit) (Ok tt))) (with_aliases s (cond bad s.aliases (cond known changed pushed)))).after
added_after true known full s changed pushed same few = refl
added_after false true true s changed pushed same few = ap (with_aliases s) (same refl)
added_after false true false s changed pushed same few = refl
added_after false false true s changed pushed same few = absurd (let never : true ≡ false = few refl in cc)
added_after false false false s changed pushed same few = refl

-- what adding comes to
pub added_state : (s : State) (program source target : List ℕ) (ls : List AliasList) → s.closed ≡ false → ls ≡ added s.aliases program source target
    → with_aliases s ls ≡ (added_alias s program source target).after
added_state s program source target ls is_open is =
    ap (with_aliases s) is
    ∙ added_after (is_bad program source target) (is_known s.aliases program) (is_over s.aliases program source) s
    (changed_in (λ es. with_entry es (entry_of source target)) s.aliases program)
    (s.aliases ++ (let l : AliasList = record { program = program; entries = with_entry [] (entry_of source target) } in l) ∷ [])
    (λ full. changed-same (λ es. with_entry es (entry_of source target)) s.aliases program (sym (with-full (entries_in s.aliases program) (entry_of source target) full)))
    (λ none. ap (λ es. is_full es source) (unknown-none s.aliases program none))
    ∙ open_after s.closed s (by_answer s (add_answer s.aliases program source target) (with_aliases s (added s.aliases program source target))) is_open
