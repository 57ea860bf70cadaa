use Rattle.con_document.specs.Steps.{step_in}
use Rattle.con_script.proofs.OrderLemmas.{halted, halted_keys, script_keys, script_program, script_group, script_steps, script_ok}
use Rattle.con_script.proofs.client.script.Goals as goal

pub returns-in_err-check_keys : goal.returns-in_err-check_keys
returns-in_err-check_keys c = halted_keys c.in_err-check_keys.field-0.0 c.from_residual.result _ _ (λ e p. script_keys (step_in c.args.version) _ e p) c.from_residual.ensures.1 c.in_err-check_keys.ensures

pub returns-in_err-program : goal.returns-in_err-program
returns-in_err-program c = halted c.in_err-program.field-0.0 c.from_residual-in_err-program.result _ _ (λ e p. script_program (step_in c.args.version) _ e c.in_ok-check_keys.ensures p) c.from_residual-in_err-program.ensures.1 c.in_err-program.ensures

pub returns-in_err-group : goal.returns-in_err-group
returns-in_err-group c = halted c.in_err-group.field-0.0 c.from_residual-in_err-group.result _ _ (λ e p. script_group (step_in c.args.version) _ _ e c.in_ok-check_keys.ensures c.in_ok-program.ensures p) c.from_residual-in_err-group.ensures.1 c.in_err-group.ensures

pub returns-in_err-steps : goal.returns-in_err-steps
returns-in_err-steps c = halted c.in_err-steps.field-0.0 c.from_residual-in_err-steps.result _ _ (λ e p. script_steps (step_in c.args.version) _ _ _ e c.in_ok-check_keys.ensures c.in_ok-program.ensures c.in_ok-group.ensures p) c.from_residual-in_err-steps.ensures.1 c.in_err-steps.ensures

pub returns : goal.returns
returns c = script_ok (step_in c.args.version) _ _ _ _ c.in_ok-check_keys.ensures c.in_ok-program.ensures c.in_ok-group.ensures c.in_ok-steps.ensures
