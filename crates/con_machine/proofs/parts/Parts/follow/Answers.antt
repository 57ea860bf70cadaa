use Rattle.con_machine.proofs.Followed.{echo_follows}
use Rattle.con_machine.proofs.parts.Parts.follow.Goals as goal

pub returns-in-Echo-clause-state : goal.returns-in-Echo-clause-state
returns-in-Echo-clause-state c = λ act of told. echo_follows c.args.self.now.state c.show_line.new.self.state c.in-Echo.p c.in-Echo.echo c.args.step act c.in-Echo.is of told c.show_line.ensures.state
