-- The words of the code and of laws about Headline, which a reader need not believe.
use Rattle.con_audit.specs.Audit.{Given, IsAudited}
use Rattle.con_audit.specs.Headline.{IsRun}
use Rattle.con_audit.specs.declared.verdict.Verdict.TheVariants as verdicts

abbrev pub YesIsARun : Type 0
YesIsARun = (g : Given) → IsAudited g verdicts.Yes → IsRun g
