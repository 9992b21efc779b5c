-- Lists of terms that hold the subterms of others.
use Rattle.std.specs.Prelude.{◌≢◌, List, Contains}
use Rattle.std.specs.List.{AllPairs}
use Rattle.spec_sorts.specs.Terms.{Term, app, list_of}

-- the arguments of a term, in order
abbrev pub arguments_of : Term → List Term
arguments_of (app h ts) = list_of ts

-- the second list holds each term of the first
abbrev pub AreAmong : List Term → List Term → Type 0
AreAmong ts us = (t : Term) → Contains ts t → Contains us t

-- with each of its terms it holds that term's arguments
abbrev pub IsClosed : List Term → Type 0
IsClosed us = (t : Term) → Contains us t → AreAmong (arguments_of t) us

-- no term occurs twice
abbrev pub AreOnce : List Term → Type 0
AreOnce ts = AllPairs (λ t u. t ≢ u) ts
