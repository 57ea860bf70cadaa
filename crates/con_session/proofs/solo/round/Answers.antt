use Rattle.std.proofs.Common.{sym, ◌∙◌, []}
use Rattle.con_link.specs.LinkReading.{plainly}
use Rattle.con_actors.specs.Words.Sender.{NoMore}
use Rattle.con_session.proofs.Going.{round_ok, round_err, sent_err, entered_err, painted_err}
use Rattle.con_actors.specs.Beginning.{all_follow}
use Rattle.con_actors.specs.TiedLaws.{tied_ran}
use Rattle.con_session.proofs.solo.round.Goals as goal

pub painter_turn-requires : goal.painter_turn-requires
painter_turn-requires g c = tied_ran _ _ _ _ _ c.in_ok-entered.ensures.ran (tied_ran _ _ _ _ _ c.in_ok-sent.ensures.ran c.requires.tied)

pub returns-in_err-sent-clause-turn : goal.returns-in_err-sent-clause-turn
returns-in_err-sent-clause-turn g c = λ b before old all f k. round_err plainly NoMore NoMore _ _ _ _ _ _ _ c.from_residual.ensures.0
    (sent_err plainly NoMore NoMore b _ before old _ _ _ _ _ _ c.in_err-sent.ensures.turn c.in_err-sent.ensures.link
    (λ d. all_follow _ _ _ _ _ c.args.seats.now c.requires.scripts d _ _) all f k)

pub returns-in_err-entered-clause-turn : goal.returns-in_err-entered-clause-turn
returns-in_err-entered-clause-turn g c = λ b before old all f k. round_err plainly NoMore NoMore _ _ _ _ _ _ _ c.from_residual-in_err-entered.ensures.0
    (entered_err plainly NoMore NoMore NoMore b _ before old _ _ _ _ _ _ _ _ _ _ [] [] [] [] _ c.in_ok-sent.sent _ (sym c.requires.scripts)
    c.in_ok-sent.ensures.turn c.in_ok-sent.ensures.link (λ fs h x a d m. tt) (λ fs h m. tt) c.in_err-entered.ensures.turn all f k)

pub returns-in_err-painted-clause-turn : goal.returns-in_err-painted-clause-turn
returns-in_err-painted-clause-turn g c = λ b before old all f k. round_err plainly NoMore NoMore _ _ _ _ _ _ _ c.from_residual-in_err-painted.ensures.0
    (painted_err plainly NoMore NoMore NoMore b _ before old _ _ _ _ _ _ _ _ _ _ _ _ _ _ _ _ _ _ c.args.stage.now.canvas.painter _
    c.args.stage.now.canvas.end _ _ c.in_ok-sent.sent c.in_ok-entered.entered _ (sym c.requires.scripts) c.in_ok-sent.ensures.turn
    c.in_ok-sent.ensures.link (λ fs h x a d m. tt) (λ fs h m. tt) (λ fs h m. tt) c.in_ok-entered.ensures.turn
    c.in_err-painted.ensures.fails c.in_err-painted.ensures.acts c.in_err-painted.ensures.turn
    (λ d s h. all_follow _ _ _ _ _ c.clients_turn.new.seats (c.requires.scripts ∙ sym c.clients_turn.auto.seats) d s h) all f k)

pub returns-clause-turn : goal.returns-clause-turn
returns-clause-turn g c = λ b before old all f k. round_ok plainly NoMore NoMore NoMore b _ before old _ _ _ _ _ _ _ _ _ _ _ _ _ _ _ _ _ _ _ _ _ _ _
    c.in_ok-sent.sent c.in_ok-entered.entered c.in_ok-painted.painted _ c.any_of.ensures
    (record {
      count = sym c.requires.scripts;
      sends = c.in_ok-sent.ensures.turn;
      link = c.in_ok-sent.ensures.link;
      closed = λ fs h x a d m. tt;
      follow = λ e fs m. tt;
      enter = c.in_ok-entered.ensures.turn;
      fails = c.in_ok-painted.ensures.fails;
      acts = c.in_ok-painted.ensures.acts;
      paint = c.in_ok-painted.ensures.turn;
    }) all f k
