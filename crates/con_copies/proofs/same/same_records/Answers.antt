-- Lists are the same where their records are.
use Rattle.std.proofs.Common.{rules}
use Rattle.std.specs.Cmp.Rules.{comparing}
use Rattle.std.proofs.lemmas.Slice.Eq.{slice_eq-Decides}
use Rattle.con_records.specs.contracts.record.RecordPartialEq.TheImpl.{ghosts}
use Rattle.con_copies.proofs.same.same_records.Goals as goal

pub returns : goal.returns
returns c = slice_eq-Decides {E = ghosts.eq} (λ x y. search (comparing, rules)) _ _ _ c.eq.ensures
