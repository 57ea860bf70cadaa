use Rattle.con_run.proofs.Turning.{paints_err, to_none, to_whole, to_part, to_broken, to_less}
use Rattle.con_run.proofs.work.painter.paint_to.Goals as goal

pub returns-in_err-paint-clause-drew : goal.returns-in_err-paint-clause-drew
returns-in_err-paint-clause-drew g c =
    paints_err c.from_residual.result c.args.painter.now c.paint.new.self (g.O.Sink.written c.args.term.now)
    (g.O.Sink.written c.args.term.now) c.from_residual.ensures.0
    (to_less c.args.painter.now c.paint.new.self (g.O.Sink.written c.args.term.now) c.in_err-paint.ensures.drew)

pub returns-in-None-clause-drew : goal.returns-in-None-clause-drew
returns-in-None-clause-drew g c =
    let t = rw c.in-None.is at c.in_ok-paint.ensures.drew in to_none c.args.painter.now c.paint.new.self (g.O.Sink.written c.args.term.now) t

pub returns-in-Ok-clause-drew : goal.returns-in-Ok-clause-drew
returns-in-Ok-clause-drew g c =
    let t = rw c.in-Some.is at c.in_ok-paint.ensures.drew in
    to_whole c.args.painter.now c.paint.new.self (g.O.Sink.written c.args.term.now)
    (g.O.Sink.written c.write_whole.new.sink) c.in-Some.piece c.as_slice.result.now c.as_slice.ensures t c.in-Ok.ensures.whole

pub returns-in-Err-Failed-clause-drew : goal.returns-in-Err-Failed-clause-drew
returns-in-Err-Failed-clause-drew g c =
    let t = rw c.in-Some.is at c.in_ok-paint.ensures.drew in
    to_part c.args.painter.now c.paint.new.self (g.O.Sink.written c.args.term.now)
    (g.O.Sink.written c.write_whole.new.sink) c.in-Some.piece c.as_slice.result.now c.as_slice.ensures t c.write_whole.ensures.front

pub returns-clause-drew : goal.returns-clause-drew
returns-clause-drew g c =
    let t = rw c.in-Some.is at c.in_ok-paint.ensures.drew in
    to_broken c.args.painter.now c.paint.new.self (g.O.Sink.written c.args.term.now)
    (g.O.Sink.written c.write_whole.new.sink) c.in-Some.piece c.as_slice.result.now c.as_slice.ensures t c.write_whole.ensures.front
