-- Nothing, or what goes at once.
use Rattle.std.proofs.Common.{refl}
use Rattle.con_term.specs.Inside.{parts}
use Rattle.con_term.specs.PlayLaws.{play-none}
use Rattle.con_term.proofs.AsciiLemmas.{plain_run, none_held}
use Rattle.con_term.proofs.EndLemmas.{ends_run}
use Rattle.con_term.proofs.terminal.run_played.Goals as goal

pub returns-then-not-is_clear-clause-played : goal.returns-then-not-is_clear-clause-played
returns-then-not-is_clear-clause-played c = play-none _

pub returns-then-held-ne0-clause-played : goal.returns-then-held-ne0-clause-played
returns-then-held-ne0-clause-played c = play-none _

pub returns-in_default-clause-played : goal.returns-in_default-clause-played
returns-in_default-clause-played c = play-none _

pub returns-then-is_plain-clause-played : goal.returns-then-is_plain-clause-played
returns-then-is_plain-clause-played c = plain_run (parts c.args.bytes.now c.args.page.now c.args.units.now) _ _ c.plain_is_printed.ensures (none_held _ _ c.held.ensures c.if-held-ne0.false) (c.is_clear.ensures.clear c.if-not-is_clear.false) c.print_run.ensures.plain c.print_run.ensures.printed

pub returns-then-is_end-clause-played : goal.returns-then-is_end-clause-played
returns-then-is_end-clause-played c = ends_run (parts c.args.bytes.now c.args.page.now c.args.units.now) _ _ (none_held _ _ c.held.ensures c.if-held-ne0.false) (c.is_clear.ensures.clear c.if-not-is_clear.false) c.end_rows.ensures.ends c.end_rows.ensures.done

pub returns-clause-played : goal.returns-clause-played
returns-clause-played c = c.character_printed.ensures.printed (parts c.args.bytes.now c.args.page.now c.args.units.now) (none_held _ _ c.held.ensures c.if-held-ne0.false) (c.is_clear.ensures.clear c.if-not-is_clear.false) refl
