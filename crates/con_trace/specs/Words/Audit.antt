-- The words of the code and of laws about Audit, which a reader need not believe.
use Rattle.con_trace.specs.Audit.{Found, a_run, no_run}
use Rattle.con_trace.specs.declared.audit.AuditLine.{AuditLine}
use Rattle.con_trace.specs.declared.audit.AuditLine.TheVariants as line

-- what the line says
abbrev pub found_of : AuditLine → Found
found_of line.Yes = a_run
found_of (line.No place part) = no_run place part.now
