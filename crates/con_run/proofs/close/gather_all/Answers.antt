use Rattle.std.proofs.Common.{map}
use Rattle.con_book.specs.Passes.{view_of}
use Rattle.con_run.proofs.Taking.{all_taken, covers_none}
use Rattle.con_run.proofs.close.gather_all.Goals as goal

pub returns-clause-into : goal.returns-clause-into
returns-clause-into g c =
    all_taken c.args.into.now c.gather-gone.new.into c.take_in.new.into (map (λ c'. view_of c'.scribe.pass) c.args.crew.items)
    (view_of c.args.side.pass) c.gather-gone.ensures.into c.take_in.ensures.taken c.requires.into.2 c.requires.side.2

pub returns-clause-covers : goal.returns-clause-covers
returns-clause-covers g c =
    c.take_in.ensures.covers (covers_none (view_of c.args.side.pass) c.requires.side.2)
    (c.gather-gone.ensures.covers (covers_none (view_of c.args.into.now) c.requires.into.2))
