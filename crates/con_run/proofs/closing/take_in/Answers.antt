use Rattle.con_book.specs.Passes.{view_of}
use Rattle.con_run.proofs.Taking.{covers_both}
use Rattle.con_run.proofs.closing.take_in.Goals as goal

pub returns-clause-taken : goal.returns-clause-taken
returns-clause-taken c =
    let b = c.join.ensures.both in
    record {
      book = c.join.ensures.book;
      start = λ i. (b i).start;
      actor = λ i. (b i).actor;
      opens = λ i. (b i).opens;
      made = λ i. (b i).made;
      mine = λ i. (b i).mine;
      kept_is = λ i. (b i).kept;
      seen = c.join.ensures.seen.1;
      own_mine = c.join.ensures.mine;
    }

pub returns-clause-covers : goal.returns-clause-covers
returns-clause-covers c =
    λ w v. covers_both (view_of c.args.into.now) (view_of c.args.other) (view_of c.join.new.into) w v (λ i. (c.join.ensures.both i).kept) c.join.ensures.seen
