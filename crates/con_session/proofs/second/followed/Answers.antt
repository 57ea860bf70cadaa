use Rattle.std.proofs.Common.{true, false}
use Rattle.con_session.proofs.Mirroring.{follow_err, follow_none, follow_some, view_in}
use Rattle.con_session.proofs.second.followed.Goals as goal

pub returns-in_ok-follow-in-Some-clause-turn : goal.returns-in_ok-follow-in-Some-clause-turn
returns-in_ok-follow-in-Some-clause-turn g c = λ s ended ps before fs h i k. follow_some true _ _ s ended _ _ _ before _ _ fs h c.in-Some.is
    (c.in_ok-follow-in-Some.ensures.turn s ended ps before fs h (view_in _ _ s h c.in-Some.is i) k)

pub returns-in-None-clause-turn : goal.returns-in-None-clause-turn
returns-in-None-clause-turn g c = λ s ended ps before fs h i k. follow_none false _ s ended _ _ _ before _ _ fs h c.in-None.is (ps, k)

pub returns-in_err-follow-in-Some-clause-turn : goal.returns-in_err-follow-in-Some-clause-turn
returns-in_err-follow-in-Some-clause-turn g c = λ s ended ps before fs h i k. follow_err _ _ s ended _ _ _ before _ _ fs h c.from_residual.ensures.0
    (c.in_err-follow-in-Some.ensures.turn s ended ps before fs h (view_in _ _ s h c.in-Some.is i) k)
