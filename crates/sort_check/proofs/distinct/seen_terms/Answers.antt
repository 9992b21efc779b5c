-- Numbers that were seen are as many as their terms.
use Rattle.std.proofs.Common.{◌∙◌}
use Rattle.sort_check.proofs.Counting.{seen_are_different}
use Rattle.sort_check.proofs.distinct.seen_terms.Goals as goal

pub returns : goal.returns
returns c = c.len.ensures.len ∙ seen_are_different c.args.table.now c.args.ids.now c.args.seen.now.keys c.ids_are_unique.ensures c.requires.there c.requires.once
