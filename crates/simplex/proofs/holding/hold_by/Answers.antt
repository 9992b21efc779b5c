-- The bounds that come are those of both sides.
use Rattle.std.proofs.Common.{◌++◌, append_assoc, ap, ◌∙◌}
use Rattle.simplex_atoms.specs.Limits.{one_of}
use Rattle.simplex.proofs.holding.hold_by.Goals as goal

pub returns-clause-more : goal.returns-clause-more
returns-clause-more c = (
  one_of c.bounds_by-first.result.0 ++ one_of c.bounds_by-first.result.1,
  c.hold_one-2.ensures.held ∙ ap (λ bs. bs ++ one_of c.bounds_by-first.result.1) c.hold_one.ensures.held ∙ append_assoc c.args.bounds.now.held (one_of c.bounds_by-first.result.0) (one_of c.bounds_by-first.result.1),
)
