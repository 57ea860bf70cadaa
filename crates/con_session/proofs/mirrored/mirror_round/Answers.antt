use Rattle.std.proofs.Common.{sym, ◌∙◌, [], true}
use Rattle.con_link.specs.LinkReading.{mirrored}
use Rattle.con_actors.specs.Words.Second.{Seconded}
use Rattle.con_actors.specs.Beginning.{all_follow}
use Rattle.con_actors.specs.TiedLaws.{tied_ran}
use Rattle.con_session.proofs.LastGiven.{followed_paint, followed_ran, followed_still, pictured_since}
use Rattle.con_session.proofs.Going.{followed_err, round_ok, round_err, sent_err, entered_err, painted_err}
use Rattle.con_session.proofs.Mirroring.{Lacks, acts_some, closed_by, ends_by, fails_some, followed_by, followed_none, paint_some, past_by, pictured_whole}
use Rattle.con_session.proofs.mirrored.mirror_round.Goals as goal

pub painted-requires : goal.painted-requires
painted-requires g c = tied_ran _ _ _ _ _ c.in_ok-entered.ensures.ran (tied_ran _ _ _ _ _ c.in_ok-sent.ensures.ran c.requires.tied)

pub followed-requires-clause-view : goal.followed-requires-clause-view
followed-requires-clause-view g c = pictured_whole _ _ _ _ _ _ _ c.in_ok-shown.ensures.pictured

pub followed-requires-clause-marks : goal.followed-requires-clause-marks
followed-requires-clause-marks g c = pictured_since _ _ _ _ _ _ _ _
    (followed_ran _ _ _ _ _ c.in_ok-entered.ensures.ran (followed_ran _ _ _ _ _ c.in_ok-sent.ensures.ran
    (followed_still _ _ _ c.in_ok-sent.ensures.given c.requires.followed))) c.in_ok-shown.ensures.pictured c.in_ok-shown.ensures.marks

pub returns-clause-followed : goal.returns-clause-followed
returns-clause-followed g c = followed_paint c.in_ok-shown.shown _ _ _ _ _ _ _ _
    (followed_ran _ _ _ _ _ c.in_ok-entered.ensures.ran (followed_ran _ _ _ _ _ c.in_ok-sent.ensures.ran
    (followed_still _ _ _ c.in_ok-sent.ensures.given c.requires.followed))) c.in_ok-shown.ensures.pictured c.in_ok-painted.ensures.given

pub returns-in_err-sent-clause-turn : goal.returns-in_err-sent-clause-turn
returns-in_err-sent-clause-turn g c = λ b before old was all f k. round_err mirrored _ _ _ _ _ _ _ _ _ c.from_residual.ensures.0
    (sent_err mirrored (Seconded b.state _ _ _ _ was _ _) (Lacks b.state b.session.size _ was _ _) b _ before old _ _ _ _ _ _ c.in_err-sent.ensures.turn (λ z q.
    c.in_err-sent.ensures.link b.state b.session.size _ _ was _ _ z q) (λ d. all_follow _ _ _ _ _ c.args.seats.now c.requires.scripts d _ _) all f k)

pub returns-in_err-entered-clause-turn : goal.returns-in_err-entered-clause-turn
returns-in_err-entered-clause-turn g c = λ b before old was all f k. round_err mirrored _ _ _ _ _ _ _ _ _ c.from_residual-in_err-entered.ensures.0
    (entered_err mirrored (Seconded b.state _ _ _ _ was _ _) (Seconded b.state _ _ _ _ was _ _) (Lacks b.state b.session.size _ was _ _)
    b _ before old _ _ _ _ _ _ _ _ _ _ [] [] [] [] _ c.in_ok-sent.sent _ (sym c.requires.scripts) c.in_ok-sent.ensures.turn
    (λ z q. c.in_ok-sent.ensures.link b.state b.session.size _ _ was _ _ z q) (λ fs h x n d q. closed_by b.state _ _ _ _ was _ _ fs h x n d q)
    (λ fs h q. ends_by b.state _ _ _ _ was _ _ true b.session.size fs h q) c.in_err-entered.ensures.turn all f k)

pub returns-in_err-shown-clause-turn : goal.returns-in_err-shown-clause-turn
returns-in_err-shown-clause-turn g c = λ b before old was all f k. round_err mirrored _ _ _ _ _ _ _ _ _ c.from_residual-in_err-shown.ensures.0
    (painted_err mirrored (Seconded b.state _ _ _ _ was _ _) (Seconded b.state _ _ _ _ was _ _) (Lacks b.state b.session.size _ was _ _) b _ before old _
    _ _ _ _ _ _ _ _ _ _ _ _ _ _ _ _ _ c.args.stage.now.canvas.painter _ c.args.stage.now.canvas.end _ _ c.in_ok-sent.sent c.in_ok-entered.entered _
    (sym c.requires.scripts) c.in_ok-sent.ensures.turn (λ z q. c.in_ok-sent.ensures.link b.state b.session.size _ _ was _ _ z q)
    (λ fs h x n d q. closed_by b.state _ _ _ _ was _ _ fs h x n d q) (λ fs h q. ends_by b.state _ _ _ _ was _ _ true b.session.size fs h q)
    (λ fs h q. past_by b.state _ _ _ _ was _ _ b.session.size fs h q) c.in_ok-entered.ensures.turn
    c.in_err-shown.ensures.fails c.in_err-shown.ensures.acts c.in_err-shown.ensures.turn
    (λ d s h. all_follow _ _ _ _ _ c.clients_turn.new.seats (c.requires.scripts ∙ sym c.clients_turn.auto.seats) d s h) all f k)

pub returns-in_err-painted-clause-turn : goal.returns-in_err-painted-clause-turn
returns-in_err-painted-clause-turn g c = λ b before old was all f k. round_err mirrored _ _ _ _ _ _ _ _ _ c.from_residual-in_err-painted.ensures.0
    (followed_err mirrored (Seconded b.state _ _ _ _ was _ _) (Seconded b.state _ _ _ _ was _ _) (Lacks b.state b.session.size _ was _ _) b _ before old
    _ _ _ _ _ _ _ _ _ _ _ _ _ _ _ _ _ _ _ _ _ _ _ c.in_ok-sent.sent c.in_ok-entered.entered true
    (record {
      count = sym c.requires.scripts;
      sends = c.in_ok-sent.ensures.turn;
      link = (λ z q. c.in_ok-sent.ensures.link b.state b.session.size _ _ was _ _ z q);
      closed = (λ fs h x n d q. closed_by b.state _ _ _ _ was _ _ fs h x n d q);
      follow = followed_none c.in_ok-shown.shown b.state _ _ _ _ _ _ _ _ _ _ _ was _ _ _ _ b.session.size c.in_err-painted.ensures.lack
          c.in_ok-shown.ensures.pictured (λ ps fs i q. c.in_err-painted.ensures.turn b.state _ ps was fs _ i q);
      enter = c.in_ok-entered.ensures.turn;
      fails = fails_some c.in_ok-shown.shown true _ _ (sym c.in_err-painted.ensures.lack) c.in_ok-shown.ensures.fails;
      acts = λ d i j. acts_some c.in_ok-shown.shown true d _ (sym c.in_err-painted.ensures.lack) (c.in_ok-shown.ensures.acts d i j);
      paint = λ d size z ps i j. paint_some c.in_ok-shown.shown true d _ _ _ _ _ _ size _ ps _ _ z _ _ (sym c.in_err-painted.ensures.lack)
          (c.in_ok-shown.ensures.turn d size z ps i j);
    }) (λ d s h. all_follow _ _ _ _ _ c.clients_turn.new.seats (c.requires.scripts ∙ sym c.clients_turn.auto.seats) d s h) all f k)

pub returns-clause-turn : goal.returns-clause-turn
returns-clause-turn g c =
    λ b before old was all f k. round_ok mirrored (Seconded b.state _ _ _ _ was _ _) (Seconded b.state _ _ _ _ was _ _) (Seconded b.state _ _ _ _ was _ _)
    b _ before old _ _ _ _ _ _ _ _ _ _ _ _ _ _ _ _ _ _ _ _ _ _ _ c.in_ok-sent.sent c.in_ok-entered.entered c.in_ok-painted.painted _ c.any_of.ensures
    (record {
      count = sym c.requires.scripts;
      sends = c.in_ok-sent.ensures.turn;
      link = (λ z q. c.in_ok-sent.ensures.link b.state b.session.size _ _ was _ _ z q);
      closed = (λ fs h x n d q. closed_by b.state _ _ _ _ was _ _ fs h x n d q);
      follow = followed_by c.in_ok-shown.shown c.in_ok-painted.painted b.state _ _ _ _ _ _ _ _ _ _ _ _ _ was _ _ _ _ c.in_ok-shown.ensures.pictured
          (λ ps fs i q. c.in_ok-painted.ensures.turn b.state _ ps was fs _ i q);
      enter = c.in_ok-entered.ensures.turn;
      fails = fails_some c.in_ok-shown.shown _ _ _ c.in_ok-painted.ensures.told c.in_ok-shown.ensures.fails;
      acts = λ d i j. acts_some c.in_ok-shown.shown _ d _ c.in_ok-painted.ensures.told (c.in_ok-shown.ensures.acts d i j);
      paint = λ d size z ps i j.
          paint_some c.in_ok-shown.shown _ d _ _ _ _ _ _ size _ ps _ _ z _ _ c.in_ok-painted.ensures.told (c.in_ok-shown.ensures.turn d size z ps i j);
    }) all f k
