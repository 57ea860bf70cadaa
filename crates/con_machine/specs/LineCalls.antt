-- Calls on histories and aliases: the words of the code and of laws.
use Rattle.std.specs.Prelude.{ℕ, ℤ, pos, not, List, [], ◌∷◌, ◌++◌, map, Option, ok_or}
use Rattle.con_units.specs.declared.code.Code.TheVariants as code
use Rattle.con_procs.specs.Procs.{program_of}
use Rattle.con_history.specs.Histories.{lines_of, cleared, configured, is_refused}
use Rattle.con_history.specs.declared.info.HistoryInfo.{HistoryInfo}
use Rattle.con_alias.specs.Aliases.{Entry, alias_at, entries_in, added, add_answer, removed, remove_answer}
use Rattle.con_machine.specs.State.{State}
use Rattle.con_machine.specs.Outcome.{Outcome, answered, done, or_refused, while_open, by_answer, checked}
use Rattle.con_events.specs.declared.reply.Reply.TheVariants as replies

-- GetConsoleHistoryInfo
abbrev pub info_numbers : HistoryInfo → List ℤ
info_numbers i = pos i.lines ∷ pos i.number ∷ pos i.flag ∷ []

abbrev pub told_history_info : State → Outcome
told_history_info s = while_open s (answered s (replies.Numbers (info_numbers s.histories.info)))

abbrev pub history_configured : State → HistoryInfo → Outcome
history_configured s info = by_answer s (checked (not (is_refused info))) (record s { histories = configured s.histories info })

-- SetConsoleHistoryInfo
abbrev pub set_history : State → ℕ → ℕ → ℕ → Outcome
set_history s lines number flag = while_open s (history_configured s (record { lines = lines; number = number; flag = flag }))

-- the lines of the client's own program, oldest first
abbrev pub listed_history : State → ℕ → Outcome
listed_history s p = while_open s (answered s (replies.Lines (lines_of s.histories (program_of s.procs p))))

abbrev pub cleared_history : State → ℕ → Outcome
cleared_history s p = while_open s (done (record s { histories = cleared s.histories (program_of s.procs p) }))

-- ---- AddConsoleAlias, GetConsoleAlias, GetConsoleAliases

abbrev pub added_alias : State → List ℕ → List ℕ → List ℕ → Outcome
added_alias s program source target = while_open s (
    by_answer s (add_answer s.aliases program source target) (record s { aliases = added s.aliases program source target }))

abbrev pub removed_alias : State → List ℕ → List ℕ → Outcome
removed_alias s program source = while_open s (
    by_answer s (remove_answer s.aliases program source) (record s { aliases = removed s.aliases program source }))

abbrev pub told_alias_in : State → Option Entry → Outcome
told_alias_in s e = or_refused s (ok_or e code.NoAlias) (λ x. answered s (replies.Units x.target))

abbrev pub told_alias : State → List ℕ → List ℕ → Outcome
told_alias s program source = while_open s (told_alias_in s (alias_at s.aliases program source))

-- source, `=`, target
abbrev pub pair_of : Entry → List ℕ
pair_of e = e.source ++ 0x3D ∷ e.target

abbrev pub listed_aliases : State → List ℕ → Outcome
listed_aliases s program = while_open s (answered s (replies.Lines (map pair_of (entries_in s.aliases program))))
