-- Terms for examples.
use Rattle.std.specs.Prelude.{true, false, [], ◌∷◌, codes}
use Rattle.spec_sorts.specs.Terms.{Truth, Declared, Apply, Term, of}
use Rattle.spec_sorts.specs.Literals.{Literal}
use Rattle.spec_equality.specs.Reasons.{equal}
use Rattle.spec_equality.specs.Congruence.{signed_literal}

-- (f t) for a term of a declared sort
abbrev pub f : Term → Term
f t = of (Apply (record { name = codes "f"; parameters = Declared (codes "S") ∷ []; result = Declared (codes "S") }))
    (t ∷ [])

-- (h t) for a term of sort Bool
abbrev pub h : Term → Term
h t = of (Apply (record { name = codes "h"; parameters = Truth ∷ []; result = Declared (codes "S") })) (t ∷ [])

-- the terms are stated to be equal
abbrev pub same : Term → Term → Literal
same t u = signed_literal (equal t u) true

-- the terms are stated to be different
abbrev pub apart : Term → Term → Literal
apart t u = signed_literal (equal t u) false
