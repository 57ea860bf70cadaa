use Rattle.con_laws.proofs.Onces.{once, session_once}
use Rattle.con_laws.proofs.once.each_record_is_taken_once.Goals as goal

pub returns-clause-console : goal.returns-clause-console
returns-clause-console c = once (record {
  serving = c.serving_loses_nothing.ensures;
  whole = c.no_record_is_lost.ensures.records;
  each = c.no_record_is_lost.ensures.fates;
  records = c.a_read_answers_the_records_of_its_fate.ensures;
  texts = c.a_text_is_of_the_records_of_its_fate.ensures;
  aborted = c.a_read_fails_by_its_cause.ensures.aborted;
  closed = c.a_read_fails_by_its_cause.ensures.closed;
  peeked = c.a_peek_changes_no_fate.ensures.peeked;
  stays = c.a_peek_changes_no_fate.ensures.stays;
})

pub returns-clause-session : goal.returns-clause-session
returns-clause-session c = session_once (record {
  serving = c.serving_loses_nothing.ensures;
  whole = c.no_record_is_lost.ensures.records;
  each = c.no_record_is_lost.ensures.fates;
  records = c.a_read_answers_the_records_of_its_fate.ensures;
  texts = c.a_text_is_of_the_records_of_its_fate.ensures;
  aborted = c.a_read_fails_by_its_cause.ensures.aborted;
  closed = c.a_read_fails_by_its_cause.ensures.closed;
  peeked = c.a_peek_changes_no_fate.ensures.peeked;
  stays = c.a_peek_changes_no_fate.ensures.stays;
})
