use Rattle.std.proofs.Common.{refl}
use Rattle.con_link.specs.LinkReading.{mirrored}
use Rattle.con_sessions.proofs.Certain.{mirror_certain}
use Rattle.con_sessions.proofs.Foretelling.{left_foretold, left_no_frame, left_too_much}
use Rattle.con_sessions.proofs.Mirrors.{memory_nine_lost, never_six_lost, plainly_so, shown_all, twelve}
use Rattle.con_sessions.specs.Laws.{plain_at, told_at}
use Rattle.con_sessions.proofs.ReadBacks.{mirror_ends_so, read_back}
use Rattle.con_sessions.proofs.Reports.{as_told, failed_at, unless_failed}
use Rattle.con_sessions.proofs.SessionLemmas.{five, four}
use Rattle.con_sessions.proofs.mirror.run.Goals as goal

pub returns-clause-ran : goal.returns-clause-ran
returns-clause-ran g c =
    let ran = c.run_mirrored-mirrored.ensures in
    let told = c.tell_mirrored.ensures in
    let read = read_back mirrored _ _ _ _ _ _ _ _ _ _ _ _ _ _ c.a_legal_history_is_told.ensures.fits c.a_legal_history_is_told.ensures.said c.a_legal_history_is_told.ensures.all c.a_legal_history_is_told.ensures.each c.report_tells.ensures
    ran.outcome.leaves c.types_are_kept.ensures (mirror_ends_so _ _ c.types_are_kept.ensures.end) told.told in record {
      entries = _;
      replies = _;
      ends' = _;
      end = _;
      seconds = _;
      lost = _;
      outcome = ran.outcome;
      once = c.each_record_is_taken_once.ensures.session _ _ _;
      reported = as_told _ _ _ _ _ _ _ _ _ _ read.all' (memory_nine_lost _ _) told.reported told.told;
      read = read;
      shown = shown_all _ _ _ _ _ _ _ _ _ _ _ told.reported ran.second ran.outcome.leaves.more.all';
    }

pub returns-clause-link_failed : goal.returns-clause-link_failed
returns-clause-link_failed g c e = c.run_mirrored-mirrored.ensures.link (four _ (plain_at 4 _ _ refl (told_at _ _ _ _ _ _ c.tell_mirrored.ensures.reported 4 refl e)))

pub returns-clause-term_failed : goal.returns-clause-term_failed
returns-clause-term_failed g c e = c.run_mirrored-mirrored.ensures.term (five _ (plain_at 5 _ _ refl (told_at _ _ _ _ _ _ c.tell_mirrored.ensures.reported 5 refl e)))

pub returns-clause-report_failed : goal.returns-clause-report_failed
returns-clause-report_failed g c = failed_at _ _ _ _ _ _ c.tell_mirrored.ensures.reported (never_six_lost _ _)

pub returns-clause-second_failed : goal.returns-clause-second_failed
returns-clause-second_failed g c e = c.run_mirrored-mirrored.ensures.second (twelve _ _ (told_at _ _ _ _ _ _ c.tell_mirrored.ensures.reported 12 refl e))

pub returns-clause-foretold : goal.returns-clause-foretold
returns-clause-foretold g c bytes end known says link term second report =
    let ran = c.run_mirrored-mirrored.ensures in
    left_foretold mirrored _ (mirror_certain c.one_mirror_answer.ensures c.one_mirror_frame.ensures) _ _ _ _ _ _ _ end bytes _ _ _ _ ran.outcome.leaves
    (plainly_so _ _ _ (λ e. second (ran.second e)) (unless_failed _ _ _ _ _ _ c.tell_mirrored.ensures.reported report)) known says (λ e. link (ran.link e)) (λ e. term (ran.term e))

pub returns-clause-no_frame : goal.returns-clause-no_frame
returns-clause-no_frame g c e =
    left_no_frame mirrored _ _ _ _ _ _ _ _ _ _ _ c.run_mirrored-mirrored.ensures.outcome.leaves (plain_at 8 _ _ refl (told_at _ _ _ _ _ _ c.tell_mirrored.ensures.reported 8 refl e))

pub returns-clause-too_long : goal.returns-clause-too_long
returns-clause-too_long g c e =
    left_too_much mirrored _ (mirror_certain c.one_mirror_answer.ensures c.one_mirror_frame.ensures) _ _ _ _ _ _ _ _ _ _ c.run_mirrored-mirrored.ensures.outcome.leaves
    (plain_at 10 _ _ refl (told_at _ _ _ _ _ _ c.tell_mirrored.ensures.reported 10 refl e))
