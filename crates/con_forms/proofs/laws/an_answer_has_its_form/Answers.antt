use Rattle.con_forms.proofs.Answered.{answers_have_forms}
use Rattle.con_forms.proofs.laws.an_answer_has_its_form.Goals as goal

pub returns : goal.returns
returns c = answers_have_forms
