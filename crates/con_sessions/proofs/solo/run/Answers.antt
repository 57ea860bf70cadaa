use Rattle.std.proofs.Common.{refl}
use Rattle.con_link.specs.LinkReading.{plainly}
use Rattle.con_actors.specs.Words.Sender.{NoMore}
use Rattle.con_sessions.proofs.Certain.{plain_certain}
use Rattle.con_sessions.proofs.Foretelling.{left_foretold, left_no_frame, left_too_much}
use Rattle.con_sessions.proofs.ReadBacks.{ends_so, read_back}
use Rattle.con_sessions.proofs.Reports.{as_told, failed_at, unless_failed}
use Rattle.con_sessions.specs.Laws.{told_at}
use Rattle.con_sessions.proofs.SessionLemmas.{five, four, memory_nine, never_six}
use Rattle.con_sessions.proofs.solo.run.Goals as goal

pub returns-clause-ran : goal.returns-clause-ran
returns-clause-ran g c =
    let told = c.tell.ensures in
    let left = c.run_solo-outcome.ensures.outcome in
    let read = read_back plainly NoMore _ _ _ _ _ _ _ _ _ _ _ _ _ c.a_legal_history_is_told.ensures.fits c.a_legal_history_is_told.ensures.said c.a_legal_history_is_told.ensures.all c.a_legal_history_is_told.ensures.each c.report_tells.ensures left.leaves c.types_are_kept.ensures (ends_so _ c.types_are_kept.ensures.end) told.told in record {
      ran = record {
        entries = _;
        replies = _;
        ends' = _;
        end = _;
        leaves = left.leaves;
        once = c.each_record_is_taken_once.ensures.session _ _ _;
        reported = as_told _ _ _ _ _ _ _ _ _ _ read.all' (memory_nine _) told.reported told.told;
        read = read;
      };
      rounds = left.rounds;
    }

pub returns-clause-link_failed : goal.returns-clause-link_failed
returns-clause-link_failed g c e = c.run_solo-outcome.ensures.link (four _ (told_at _ _ _ _ _ _ c.tell.ensures.reported 4 refl e))

pub returns-clause-term_failed : goal.returns-clause-term_failed
returns-clause-term_failed g c e = c.run_solo-outcome.ensures.term (five _ (told_at _ _ _ _ _ _ c.tell.ensures.reported 5 refl e))

pub returns-clause-report_failed : goal.returns-clause-report_failed
returns-clause-report_failed g c = failed_at _ _ _ _ _ _ c.tell.ensures.reported (never_six _)

pub returns-clause-foretold : goal.returns-clause-foretold
returns-clause-foretold g c bytes end known says link term report =
    let ran = c.run_solo-outcome.ensures in
    left_foretold plainly NoMore (plain_certain c.one_answer.ensures c.one_frame.ensures) _ _ _ _ _ _ _ end bytes _ _ _ _ ran.outcome.leaves (unless_failed _ _ _ _ _ _ c.tell.ensures.reported report) known says
    (λ e. link (ran.link e)) (λ e. term (ran.term e))

pub returns-clause-no_frame : goal.returns-clause-no_frame
returns-clause-no_frame g c e = left_no_frame plainly NoMore _ _ _ _ _ _ _ _ _ _ c.run_solo-outcome.ensures.outcome.leaves (told_at _ _ _ _ _ _ c.tell.ensures.reported 8 refl e)

pub returns-clause-too_long : goal.returns-clause-too_long
returns-clause-too_long g c e = left_too_much plainly NoMore (plain_certain c.one_answer.ensures c.one_frame.ensures) _ _ _ _ _ _ _ _ _ _ c.run_solo-outcome.ensures.outcome.leaves (told_at _ _ _ _ _ _ c.tell.ensures.reported 10 refl e)
