-- The filled term is at the place of the number.
use Rattle.std.proofs.Common.{get_or, subst}
use Rattle.term_walks.specs.FilledTerms.{IsFilled}
use Rattle.term_walks.proofs.Named.{no_number}
use Rattle.term_walks.proofs.substitution.made_at.Goals as goal

pub returns : goal.returns
returns c t ts are =
    subst (λ k. IsFilled t ts k (get_or c.args.made.now c.place_among-place.result no_number)) c.place_among-place.ensures.same (are c.place_among-place.result no_number c.place_among-place.ensures.inside)
