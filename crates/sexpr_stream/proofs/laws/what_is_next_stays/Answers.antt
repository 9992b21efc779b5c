-- What is next stays where the first bytes are read.
use Rattle.std.proofs.Common.{refl}
use Rattle.spec_text.specs.Readings.{is_long}
use Rattle.smt_sexpr.specs.Items.{tree_of}
use Rattle.sexpr_stream.specs.Streams.{bytes_of, taken_to}
use Rattle.sexpr_stream.proofs.Limits.{each_next, each_stopped}
use Rattle.sexpr_stream.proofs.laws.what_is_next_stays.Goals as goal

pub returns-clause-item : goal.returns-clause-item
returns-clause-item c s x after rest item come = each_next s.closed (is_long (bytes_of s)) (bytes_of s) rest (taken_to s) (tree_of x) refl come item.next

pub returns-clause-fault : goal.returns-clause-fault
returns-clause-fault c s r rest fault come = each_stopped s.closed (is_long (bytes_of s)) (bytes_of s) rest (taken_to s) r refl come fault
