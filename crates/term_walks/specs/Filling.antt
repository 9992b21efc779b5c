-- What is put in the place of parameters.
use Rattle.std.specs.Prelude.{◌≡◌, ◌<◌, List, length, get_or}
use Rattle.spec_sorts.specs.Terms.{Head, Parameter, Term, no_term, sort_of}
use Rattle.spec_sorts.specs.WellSorted.{AllHeads}

-- there is a term for the parameter, if the head is one, and of its sort
abbrev pub Fills : List Term → Head → Type 0
Fills ts (Parameter k s) = (k < length ts) × (sort_of (get_or ts k no_term) ≡ s)
Fills ts h = Unit {0}

-- so it is for each parameter of a term
abbrev pub FillsAll : List Term → Term → Type 0
FillsAll ts t = AllHeads (Fills ts) t
