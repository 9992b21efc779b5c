-- The interpretation of declared symbols under which names have such truths.
use Rattle.std.proofs.Common.{◌≡◌, Bool, List, [], ◌∷◌, ◌++◌, Option, Some, cond, Contains, get_or, inl, inr, ◌⊎◌, refl, sym, ap, ◌∙◌, subst, append_assoc}
use Rattle.std.proofs.lemmas.List.Elements.{All-nil, All-contains, Contains-get_or}
use Rattle.spec_numbers.specs.Fractions.{zero_fraction}
use Rattle.spec_numbers.proofs.Field.{zero-reduced}
use Rattle.spec_text.specs.Bytes.{Name}
use Rattle.spec_text.proofs.General.{bytes_itself}
use Rattle.spec_text.proofs.Members.{cases}
use Rattle.spec_sorts.specs.Terms.{Sort, Truth, Number, Declared, Symbol}
use Rattle.spec_sorts.specs.Values.{Value, truth, number, element, HasSort, Interpretation, table_value, IsRowOf, Interprets}
use Rattle.spec_sorts.specs.Signatures.{Known, declared, defined, of_sort, of_function, Signature, known_as, symbols_in}
use Rattle.spec_sorts.proofs.Signatures.{known_behind}
use Rattle.spec_reading.specs.Agreement.{AreSoundAfter, AreSound}

-- a value of a sort; of sort Bool it is this one
abbrev value_of_sort : Bool → Sort → Value
value_of_sort b Truth = truth b
value_of_sort b Number = number zero_fraction
value_of_sort b (Declared n) = element n 0

-- a value of a name, where it is a declared symbol's
abbrev value_by : Bool → Option Known → Value
value_by b (Some (declared f)) = value_of_sort b f.result
value_by b o = truth b

-- each name has its value, whatever its arguments are
abbrev pub model_of : Signature → (Name → Bool) → Interpretation
model_of s v = record { table = λ n. record { rows = []; default = value_by (v n) (known_as s n) } }

sort_of_it : (b : Bool) (s : Sort) → HasSort s (value_of_sort b s)
sort_of_it b Truth = tt
sort_of_it b Number = zero-reduced
sort_of_it b (Declared n) = refl

-- each declared symbol is what its name is known as
pub found : (before ds : Signature) → AreSoundAfter before ds → (f : Symbol) → Contains (symbols_in ds) f → known_as (before ++ ds) f.name ≡ Some (declared f)
found before [] h f here = absurd (All-contains (λ x. ⊥) [] f (All-nil (λ x. ⊥)) here)
found before (of_sort n u ∷ ds) h f here = ap (λ s. known_as s f.name) (sym (append_assoc before (of_sort n u ∷ []) ds)) ∙ found (before ++ of_sort n u ∷ []) ds h.1 f here
found before (of_function (defined d) ∷ ds) h f here = ap (λ s. known_as s f.name) (sym (append_assoc before (of_function (defined d) ∷ []) ds)) ∙ found (before ++ of_function (defined d) ∷ []) ds h.1 f here
found before (of_function (declared g) ∷ ds) h f here = go (cases g (symbols_in ds) f here) (λ later. found (before ++ of_function (declared g) ∷ []) ds h.1 f later)
  where
    first : known_as (before ++ of_function (declared g) ∷ ds) g.name ≡ Some (declared g)
    first = known_behind before (of_function (declared g) ∷ ds) g.name h.0 ∙ ap (λ b. cond b (Some (declared g)) (known_as ds g.name)) (bytes_itself g.name)

    go : (g ≡ f) ⊎ Contains (symbols_in ds) f → (Contains (symbols_in ds) f → known_as ((before ++ of_function (declared g) ∷ []) ++ ds) f.name ≡ Some (declared f)) → known_as (before ++ of_function (declared g) ∷ ds) f.name ≡ Some (declared f)
    go (inl same) rest = subst (λ (x : Symbol). known_as (before ++ of_function (declared g) ∷ ds) x.name ≡ Some (declared x)) same first
    go (inr later) rest = ap (λ s. known_as s f.name) (sym (append_assoc before (of_function (declared g) ∷ []) ds)) ∙ rest later

-- the default of a declared symbol
default_is : (s : Signature) (v : Name → Bool) → AreSound s → (f : Symbol) → Contains (symbols_in s) f → ((model_of s v).table f.name).default ≡ value_of_sort (v f.name) f.result
default_is s v h f here = ap (value_by (v f.name)) (found [] s h f here)

-- its tables are those of the declared symbols
pub interprets : (s : Signature) (v : Name → Bool) → AreSound s → Interprets (model_of s v) (symbols_in s)
interprets s v h k d lt =
    let f = get_or (symbols_in s) k d in
    record {
      default = subst (HasSort f.result) (sym (default_is s v h f (Contains-get_or (symbols_in s) k d lt))) (sort_of_it (v f.name) f.result);
      rows = All-nil (IsRowOf f);
      bare = λ _. refl;
    }

-- and the symbols of sort Bool have their truths
pub has_truth : (s : Signature) (v : Name → Bool) → AreSound s → (f : Symbol) (vs : List Value) → Contains (symbols_in s) f → f.result ≡ Truth → table_value (model_of s v) f.name vs ≡ truth (v f.name)
has_truth s v h f vs here sort = default_is s v h f here ∙ ap (value_of_sort (v f.name)) sort
