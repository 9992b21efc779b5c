use Rattle.std.proofs.Common.{[], refl, ◌∙◌}
use Rattle.term_core.specs.Tables.{term_at}
use Rattle.term_reader.proofs.Applied.{other_count, those_sorts, other_length, same_length, no_sorts}
use Rattle.term_reader.proofs.symbols.by_bound.Goals as goal

pub returns-then-count-ne0 : goal.returns-then-count-ne0
returns-then-count-ne0 c = λ t ts n there. rw c.fault_at.ensures (other_count [] c.args.at ts (term_at t c.args.id) (other_length ts [] c.args.count 0 n refl c.if-count-ne0.true))

pub returns : goal.returns
returns c = λ t ts n there. (there, those_sorts [] c.args.at ts (term_at t c.args.id) (same_length ts [] c.args.count 0 n refl c.if-count-ne0.false) (no_sorts ts (n ∙ c.if-count-ne0.false)))
