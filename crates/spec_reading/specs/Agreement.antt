-- When what names give by their texts agrees with what their terms give. Source: SMT-LIB 2.6, sections 4.2.3 and 5.3.
use Rattle.std.specs.Prelude.{◌≡◌, List, [], ◌∷◌, ◌++◌, length, map, None}
use Rattle.spec_text.specs.Bytes.{Name}
use Rattle.spec_sorts.specs.Terms.{Term}
use Rattle.spec_sorts.specs.Values.{Value, Interpretation, table_value}
use Rattle.spec_sorts.specs.TermValues.{value_at}
use Rattle.spec_sorts.specs.Signatures.{Known, declared, defined, Declaration, of_sort, of_function, Signature}
use Rattle.spec_sorts.specs.Signatures.{known_as}
use Rattle.spec_sorts.specs.Meaning as meaning
use Rattle.spec_sorts.specs.Meaning.{Meaning, value_of, bind, meaning_of}
use Rattle.spec_reading.specs.Reading.{Bound}

-- a declared symbol gives what its table has, and a definition the value of its term at the arguments
abbrev pub AgreesAt : Interpretation → Meaning → Known → Type 0
AgreesAt i m (declared f) = (vs : List Value) → m f.name vs ≡ table_value i f.name vs
AgreesAt i m (defined d) = (vs : List Value) → length vs ≡ length d.parameters → m d.name vs ≡ value_at i vs d.term

-- each function of a signature gives that
abbrev pub Agrees : Interpretation → Meaning → Signature → Type 0
Agrees i m [] = Unit {0}
Agrees i m (of_sort n s ∷ ds) = Agrees i m ds
Agrees i m (of_function k ∷ ds) = AgreesAt i m k × Agrees i m ds

-- bound names with the values of their terms
abbrev pub values_bound : Interpretation → List Value → Bound → meaning.Bindings
values_bound i ps b = map (λ (p : Name × Term). (p.0, value_at i ps p.1)) b

-- the name of a function is new after other declarations, and the body of a definition has its term's value, whatever
-- the arguments and the interpretation are
abbrev pub IsSoundAfter : Signature → Declaration → Type 0
IsSoundAfter before (of_sort n s) = Unit {0}
IsSoundAfter before (of_function (declared f)) = known_as before f.name ≡ None
IsSoundAfter before (of_function (defined d)) =
    (known_as before d.name ≡ None)
    × ((i : Interpretation) (vs : List Value) → length vs ≡ length d.parameters
    → value_of (meaning_of i before) (bind d.parameters vs) d.body ≡ value_at i vs d.term)

-- each of the declarations is sound after those before it, and after others
abbrev pub AreSoundAfter : Signature → Signature → Type 0
AreSoundAfter before [] = Unit {0}
AreSoundAfter before (d ∷ ds) = IsSoundAfter before d × AreSoundAfter (before ++ d ∷ []) ds

-- each declaration of a signature is sound after those before it
abbrev pub AreSound : Signature → Type 0
AreSound s = AreSoundAfter [] s
