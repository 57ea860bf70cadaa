-- The alias is there, or goes last, or there is no place.
use Rattle.std.proofs.Common.{◌≡◌, ℕ, ◌≤◌, List, not, is_some, length, false, ap, sym, ◌∙◌, arith, subst, OnOk}
use Rattle.std.specs.Map.{lookup}
use Rattle.indexmap.specs.IndexMap.{insert_entry}
use Rattle.con_alias.specs.Aliases.{Entry, same_name, is_full, put_entry}
use Rattle.con_alias.specs.Words.Aliases.{entry_of}
use Rattle.con_alias.specs.Room.{entries_of}
use Rattle.con_alias.proofs.Entries.{put-entries, full-new, full-fewer, full-known, with-full, with-placed}
use Rattle.con_alias.proofs.program.ProgramAliases.add.Goals as goal
use Rattle.con_alias.proofs.program.ProgramAliases.add.Goals.{else-len-ge-MOST_ALIASES-via-then-len-ge-MOST_ALIASES+else-not-contains_key, else-len-ge-MOST_ALIASES-via-else-len-ge-MOST_ALIASES}

pub returns-then-not-contains_key-clause-list : goal.returns-then-not-contains_key-clause-list
returns-then-not-contains_key-clause-list c =
    let m : List (List ℕ × List ℕ) = c.self.inside.aliases.entries in
    let source : List ℕ = c.args.new.source in
    let said : c.word.result.0.now ≡ source = c.word.ensures ∙ c.parts-source.ensures.source in
    let none : is_some (lookup (same_name source) m) ≡ false = ap (λ s. is_some (lookup (same_name s) m)) (sym said) ∙ sym c.contains_key.ensures ∙ c.if-not-contains_key.true in
    let many : 256 ≤ length m = omega (arith, c.if-len-ge-MOST_ALIASES.true, c.len.ensures.len) in
    rw (← c.self.view_is) (with-full (entries_of m) c.args.new (full-new m source many none))

pub returns-then-not-contains_key-clause-answer : goal.returns-then-not-contains_key-clause-answer
returns-then-not-contains_key-clause-answer c =
    let m : List (List ℕ × List ℕ) = c.self.inside.aliases.entries in
    let source : List ℕ = c.args.new.source in
    let said : c.word.result.0.now ≡ source = c.word.ensures ∙ c.parts-source.ensures.source in
    let none : is_some (lookup (same_name source) m) ≡ false = ap (λ s. is_some (lookup (same_name s) m)) (sym said) ∙ sym c.contains_key.ensures ∙ c.if-not-contains_key.true in
    let many : 256 ≤ length m = omega (arith, c.if-len-ge-MOST_ALIASES.true, c.len.ensures.len) in
    rw (← c.self.view_is) (ap not (sym (full-new m source many none)))

pub returns-clause-list : goal.returns-clause-list
returns-clause-list c =
    let m : List (List ℕ × List ℕ) = c.self.inside.aliases.entries in
    let new : Entry = c.args.new in
    let laid : c.insert.new.self.entries ≡ insert_entry same_name m c.parts-source.result.0 c.parts-source.result.1 =
    subst (λ r. OnOk r (c.insert.new.self.entries ≡ insert_entry same_name m c.parts-source.result.0 c.parts-source.result.1)) c.unwrap.ensures c.insert.ensures.entries in
    let put : entries_of c.insert.new.self.entries ≡ put_entry (entries_of m) new =
    ap entries_of laid ∙ put-entries m c.parts-source.result.0 c.parts-source.result.1
    ∙ ap (λ s. put_entry (entries_of m) (entry_of s c.parts-source.result.1)) c.parts-source.ensures.source
    ∙ ap (λ t. put_entry (entries_of m) (entry_of new.source t)) c.parts-source.ensures.target in
    let few : is_full (entries_of m) new.source ≡ false =
    elim c.else-len-ge-MOST_ALIASES.branch [
      | else-len-ge-MOST_ALIASES-via-then-len-ge-MOST_ALIASES+else-not-contains_key w ↦
          full-known m new.source (ap (λ s. is_some (lookup (same_name s) m)) (sym (w.word.ensures ∙ c.parts-source.ensures.source)) ∙ sym w.contains_key.ensures ∙ w.if-not-contains_key.false)
      | else-len-ge-MOST_ALIASES-via-else-len-ge-MOST_ALIASES w ↦ full-fewer m new.source (omega (arith, w.if-len-ge-MOST_ALIASES.false, c.len.ensures.len))
    ] in
    rw (← c.self.view_is) (put ∙ with-placed (entries_of m) new few)

pub returns-clause-answer : goal.returns-clause-answer
returns-clause-answer c =
    let m : List (List ℕ × List ℕ) = c.self.inside.aliases.entries in
    let new : Entry = c.args.new in
    let few : is_full (entries_of m) new.source ≡ false =
    elim c.else-len-ge-MOST_ALIASES.branch [
      | else-len-ge-MOST_ALIASES-via-then-len-ge-MOST_ALIASES+else-not-contains_key w ↦
          full-known m new.source (ap (λ s. is_some (lookup (same_name s) m)) (sym (w.word.ensures ∙ c.parts-source.ensures.source)) ∙ sym w.contains_key.ensures ∙ w.if-not-contains_key.false)
      | else-len-ge-MOST_ALIASES-via-else-len-ge-MOST_ALIASES w ↦ full-fewer m new.source (omega (arith, w.if-len-ge-MOST_ALIASES.false, c.len.ensures.len))
    ] in
    rw (← c.self.view_is) (ap not (sym few))
