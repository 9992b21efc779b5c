-- Where the first try found no memory, the stream of the second is the same.
use Rattle.std.proofs.Common.{◌≡◌, ◌++◌, ◌∙◌, ℕ, List, subst, OnOk, OnErr, Result, Ok, Err}
use Rattle.no_memory.specs.declared.NoMemory.{NoMemory}
use Rattle.spec_text.specs.Readings.{prefix}
use Rattle.sexpr_stream.specs.declared.stream.Stream.{Stream}
use Rattle.sexpr_stream.specs.Streams.{bytes_of, IsSame}
use Rattle.script_run.proofs.tries.feed.Goals as goal

both_same : (a b c : Stream) → IsSame a b → (r : Result (Unit {0}) NoMemory) → OnErr r (IsSame b c) → OnErr r (IsSame a c)
both_same a b c h (Ok u) k = k
both_same a b c h (Err e) k = record { bytes = k.bytes ∙ h.bytes; count = k.count ∙ h.count; place = k.place ∙ h.place; closed = k.closed ∙ h.closed }

pub returns-in-Twice-clause-bytes : goal.returns-in-Twice-clause-bytes
returns-in-Twice-clause-bytes c = subst (λ (bs : List ℕ). OnOk c.feed-in-Twice.result (bytes_of c.feed-in-Twice.new.self ≡ prefix (bs ++ c.args.piece.now))) c.in-Err.ensures.same.bytes c.feed-in-Twice.ensures.bytes

pub returns-in-Twice-clause-same : goal.returns-in-Twice-clause-same
returns-in-Twice-clause-same c = both_same c.args.stream.now c.feed.new.self c.feed-in-Twice.new.self c.in-Err.ensures.same c.feed-in-Twice.result c.feed-in-Twice.ensures.same
