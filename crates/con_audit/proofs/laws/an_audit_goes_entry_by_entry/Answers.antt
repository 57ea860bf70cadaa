-- Both ways.
use Rattle.con_audit.proofs.OneMore.{one_more, last_one}
use Rattle.con_audit.proofs.laws.an_audit_goes_entry_by_entry.Goals as goal

pub returns : goal.returns
returns c = λ w g frames h x n a. (one_more w g frames h x n a, last_one w g frames h x n a)
