use Rattle.std.proofs.Common.{◌∙◌, ap, sym}
use Rattle.std.specs.Prelude.{Option, Result, codes}
use Rattle.con_events.specs.Session.{Clients}
use Rattle.serde_json.specs.View.{view}
use Rattle.con_document.specs.Session.{Where, key_of, or_fault}
use Rattle.con_document.specs.Steps.{step_in}
use Rattle.con_script.proofs.OrderLemmas.{stopped, stopped_keys, stopped_at, session_keys, session_version, session_size, session_clients, session_whole}
use Rattle.con_script.proofs.session.session.Goals as goal

abbrev last : Option Clients → Result Clients Where
last o = or_fault (key_of (codes "clients")) o

pub returns-in_err-check_top : goal.returns-in_err-check_top
returns-in_err-check_top c = stopped_keys c.in_err-check_top.field-0.0 c.from_residual.result _ _ (λ e p. session_keys step_in _ e p) c.from_residual.ensures.1 c.in_err-check_top.ensures

pub returns-in_err-version : goal.returns-in_err-version
returns-in_err-version c = stopped c.in_err-version.field-0.0 c.from_residual-in_err-version.result _ _ (λ e p. session_version step_in _ e c.in_ok-check_top.ensures p) c.from_residual-in_err-version.ensures.1 c.in_err-version.ensures

pub returns-in_err-size : goal.returns-in_err-size
returns-in_err-size c = stopped c.in_err-size.field-0.0 c.from_residual-in_err-size.result _ _ (λ e p. session_size step_in _ _ e c.in_ok-check_top.ensures c.in_ok-version.ensures p) c.from_residual-in_err-size.ensures.1 c.in_err-size.ensures

pub returns-in_err-scripts : goal.returns-in_err-scripts
returns-in_err-scripts c = stopped c.in_err-scripts.field-0.0 c.from_residual-in_err-scripts.result _ _ (λ e p. session_clients step_in _ _ _ e c.in_ok-check_top.ensures c.in_ok-version.ensures c.in_ok-size.ensures p) c.from_residual-in_err-scripts.ensures.1 c.in_err-scripts.ensures

pub returns-in-Some : goal.returns-in-Some
returns-in-Some c = session_whole step_in (view c.args.value.now) _ _ _ c.in_ok-check_top.ensures c.in_ok-version.ensures c.in_ok-size.ensures c.in_ok-scripts.ensures ∙ ap last (sym c.in-Some.ensures)

pub returns-in-None : goal.returns-in-None
returns-in-None c = stopped_at (codes "clients") c.stop_at.result _ (session_whole step_in (view c.args.value.now) _ _ _ c.in_ok-check_top.ensures c.in_ok-version.ensures c.in_ok-size.ensures c.in_ok-scripts.ensures ∙ ap last (sym c.in-None.ensures)) c.stop_at.ensures
