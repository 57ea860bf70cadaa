-- The item, or none.
use Rattle.con_vtgram.specs.State.{parameters_of}
use Rattle.con_vtgram.proofs.StepLemmas.{csi_yes, csi_no, csi_few}
use Rattle.con_vtgram.proofs.automaton.Sequence.end.Goals as goal

pub returns-clause-gives : goal.returns-clause-gives
returns-clause-gives c = λ first is h few inter. csi_yes (parameters_of c.args.self.now) first is c.args.self.now.single c.args.self.now.csi.inter c.args.last c.min-self.result h c.if-not-self.false c.if-not-self-2.false few inter c.min-self.ensures

pub returns-then-not-self-2-clause-gives : goal.returns-then-not-self-2-clause-gives
returns-then-not-self-2-clause-gives c = λ first is h few inter. csi_few first is c.args.self.now.single c.args.last c.if-not-self-2.true few

pub returns-then-not-self-clause-gives : goal.returns-then-not-self-clause-gives
returns-then-not-self-clause-gives c = λ first is h few inter. csi_no (parameters_of c.args.self.now) first is c.args.last h c.if-not-self.true
