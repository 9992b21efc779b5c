-- What those before need, and what is left needs, is what all need.
use Rattle.std.proofs.Common.{◌≡◌, length}
use Rattle.std.specs.Prelude.{max}
use Rattle.term_reader.specs.Scopes.{terms_needed}
use Rattle.term_reader.proofs.scope.needed_by.Given as goal

abbrev pub invariant-functions : goal.invariant-functions
invariant-functions l = terms_needed l.fn.len l.fn.functions ≡ max l.needed (terms_needed l.fn.len l.rest)

abbrev pub decreases-functions : goal.decreases-functions
decreases-functions l = length l.rest
