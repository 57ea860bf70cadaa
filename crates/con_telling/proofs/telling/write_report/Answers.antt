use Rattle.std.proofs.Common.{◌≡◌}
use Rattle.con_outside.specs.Outside.{then_written}
use Rattle.con_lines.specs.Words.Ending.{ending_of}
use Rattle.con_trace.specs.Report.{said}
use Rattle.con_telling.specs.Telling.{lines_text}
use Rattle.con_telling.proofs.TellLemmas.{at_err, report_ended, report_is_cut, report_ends_cut, report_whole, told_front, told_whole_front, on_err, on_ok}
use Rattle.con_telling.specs.Laws.{report_cut}
use Rattle.con_telling.proofs.telling.write_report.Goals as goal

pub returns-in_err-write_lines-clause-front : goal.returns-in_err-write_lines-clause-front
returns-in_err-write_lines-clause-front g c = report_cut (said c.args.entries.now c.args.replies.now c.args.ends.now) (ending_of c.args.last.now) _ _ c.write_lines.ensures.front

pub returns-in_err-write_lines-clause-told : goal.returns-in_err-write_lines-clause-told
returns-in_err-write_lines-clause-told g c = told_front c.args.entries.now c.args.replies.now c.args.ends.now (ending_of c.args.last.now) _ _ c.write_lines.ensures.front c.write_lines.ensures.told

pub returns-clause-told : goal.returns-clause-told
returns-clause-told g c =
    let wrote : g.R.Sink.written c.write_lines.new.out ≡ then_written (g.R.Sink.written c.args.out.now) (lines_text (said c.args.entries.now c.args.replies.now c.args.ends.now)) = c.in_ok-write_lines.ensures.whole in
    told_whole_front c.args.entries.now c.args.replies.now c.args.ends.now (ending_of c.args.last.now) _ _ c.in_ok-write_lines.ensures.all
    (report_ended (said c.args.entries.now c.args.replies.now c.args.ends.now) (ending_of c.args.last.now) _ _ _ wrote c.write_end.ensures.front)

pub returns-clause-front : goal.returns-clause-front
returns-clause-front g c =
    let wrote : g.R.Sink.written c.write_lines.new.out ≡ then_written (g.R.Sink.written c.args.out.now) (lines_text (said c.args.entries.now c.args.replies.now c.args.ends.now)) = c.in_ok-write_lines.ensures.whole in
    report_ended (said c.args.entries.now c.args.replies.now c.args.ends.now) (ending_of c.args.last.now) _ _ _ wrote c.write_end.ensures.front

pub returns-in_err-write_lines-clause-part : goal.returns-in_err-write_lines-clause-part
returns-in_err-write_lines-clause-part g c = at_err _ (report_is_cut (said c.args.entries.now c.args.replies.now c.args.ends.now) (ending_of c.args.last.now) _ _ c.write_lines.ensures.front)

pub returns-clause-part : goal.returns-clause-part
returns-clause-part g c =
    let wrote : g.R.Sink.written c.write_lines.new.out ≡ then_written (g.R.Sink.written c.args.out.now) (lines_text (said c.args.entries.now c.args.replies.now c.args.ends.now)) = c.in_ok-write_lines.ensures.whole in
    on_err c.write_end.result (λ w. report_ends_cut (said c.args.entries.now c.args.replies.now c.args.ends.now) (ending_of c.args.last.now) _ _ _ wrote w) c.write_end.ensures.part

pub returns-clause-whole : goal.returns-clause-whole
returns-clause-whole g c =
    let wrote : g.R.Sink.written c.write_lines.new.out ≡ then_written (g.R.Sink.written c.args.out.now) (lines_text (said c.args.entries.now c.args.replies.now c.args.ends.now)) = c.in_ok-write_lines.ensures.whole in
    on_ok c.write_end.result (λ w. report_whole (said c.args.entries.now c.args.replies.now c.args.ends.now) (ending_of c.args.last.now) _ _ _ wrote w) c.write_end.ensures.whole
