-- The arguments of one term more are counted, or it is not marked.
use Rattle.std.proofs.Common.{◌∙◌, refl, arith}
use Rattle.alethe_writer.proofs.Counts.{counting_start, terms_either, terms_end}
use Rattle.alethe_writer.proofs.uses.count_in_terms.Goals as goal

pub terms-init : goal.terms-init
terms-init c = record { so_far = counting_start c.args.table.now _ c.args.uses.now }

pub count_arguments-requires-clause-there : goal.count_arguments-requires-clause-there
count_arguments-requires-clause-there c = omega (arith, c.terms-test.true, c.requires.as_many)

pub count_arguments-requires-clause-as_many : goal.count_arguments-requires-clause-as_many
count_arguments-requires-clause-as_many c = c.terms.invariant.so_far.same_length ∙ c.requires.as_many_uses

pub terms-preserved : goal.terms-preserved
terms-preserved c = record { so_far = terms_either c.args.table.now c.args.printed.now c.terms.number _ c.args.uses.now c.terms.uses c.count_arguments.new.uses _ c.terms-test.true c.requires.as_many refl c.count_arguments.ensures c.terms.invariant.so_far }

pub returns : goal.returns
returns c = terms_end c.args.table.now c.args.printed.now c.terms.number _ c.args.uses.now c.terms.uses (omega (arith, c.terms-test.false)) c.terms.invariant.so_far
