-- Those that stay.
use Rattle.std.proofs.Common.{rules, ap, ◌∙◌}
use Rattle.std.proofs.lemmas.Fn.{filter_same}
use Rattle.con_audit.specs.Links.{handlers_of}
use Rattle.con_audit.proofs.ChainLemmas.{without_is}
use Rattle.con_audit.proofs.chain.without.Goals as goal

pub returns : goal.returns
returns c = ap handlers_of (filter_same _ _ _ (λ x b f' k. search rules) _ _ c.retain.ensures.filtered) ∙ without_is c.args.place c.args.links.now.items
