-- What a log's entries mean.
use Rattle.std.specs.Prelude.{List, map}
use Rattle.proof_log.specs.declared.entry.LogEntry.{LogEntry}
use Rattle.proof_log.specs.declared.entry.LogEntry.TheVariants.{Assumed, Stepped}
use Rattle.proof_log.specs.Logs.{Logged, assumed, stepped}

-- the clause of an entry
abbrev pub logged_of : LogEntry → Logged
logged_of (Assumed id) = assumed id
logged_of (Stepped s) = stepped s.rule s.premises s.arguments s.clause

-- the clauses of entries, in order
abbrev pub log_of : List LogEntry → List Logged
log_of es = map logged_of es
