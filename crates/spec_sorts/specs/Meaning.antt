-- The value of a text, by cases on its tree. Source: SMT-LIB 2.6, section 5.3, theories Core and Reals.
use Rattle.std.specs.Prelude.{Bool, true, false, not, ◌||◌, List, [], ◌∷◌, ◌++◌, Option, Some, None, codes}
use Rattle.std.specs.Prelude.{if◌then◌else◌}
use Rattle.std.specs.Str.{bytes_eq}
use Rattle.spec_text.specs.declared.Kind.{Kind}
use Rattle.spec_text.specs.declared.Kind.TheVariants.{Numeral, Decimal, Simple, Quoted}
use Rattle.spec_text.specs.Bytes.{Name}
use Rattle.spec_text.specs.Trees.{Tree, Trees, atom, list, none, more}
use Rattle.spec_sorts.specs.Lists.{left, right, neighbours, all_pairs, all_pass}
use Rattle.spec_numbers.specs.Fractions.{Fraction, opposite, minus, divide}
use Rattle.spec_sorts.specs.Numerals.{literal_value}
use Rattle.spec_sorts.specs.Terms.{Sort}
use Rattle.spec_sorts.specs.Values.{Value, truth, number, same_value, is_true, number_in, all_true, any_true, different}
use Rattle.spec_sorts.specs.Values.{chosen, Interpretation, table_value}
use Rattle.spec_sorts.specs.TermValues.{less, at_most, by_numbers, sum, product}
use Rattle.spec_sorts.specs.Theory.{look_up}
use Rattle.spec_sorts.specs.Signatures.{Declaration, Signature, of_function, defined}
use Rattle.spec_sorts.specs.Forms.{applies, binds, annotates, form}

-- the test holds of the numbers of each pair
abbrev pub numbers_pass : (Fraction → Fraction → Bool) → List (Value × Value) → Value
numbers_pass test ps = truth (all_pass (λ v w. test (number_in v) (number_in w)) ps)

-- the negative of one number, or differences to the left
abbrev pub difference : List Value → Value
difference (v ∷ []) = number (opposite (number_in v))
difference vs = left (truth false) (by_numbers minus) vs

-- what each head of theories Core and Reals gives at its arguments' values: a chain compares neighbours, `distinct` all
-- pairs
abbrev pub theory_values : List (Name × (List Value → Value))
theory_values =
    (codes "true", λ vs. truth true) ∷
    (codes "false", λ vs. truth false) ∷
    (codes "not", λ vs. truth (not (all_true vs))) ∷
    (codes "and", λ vs. truth (all_true vs)) ∷
    (codes "or", λ vs. truth (any_true vs)) ∷
    (codes "xor", λ vs. left (truth false) (λ v w. truth (different (is_true v) (is_true w))) vs) ∷
    (codes "=>", λ vs. right (truth false) (λ v w. truth (not (is_true v) || is_true w)) vs) ∷
    (codes "=", λ vs. truth (all_pass same_value (neighbours vs))) ∷
    (codes "distinct", λ vs. truth (all_pass (λ v w. not (same_value v w)) (all_pairs vs))) ∷
    (codes "ite", λ vs. chosen vs) ∷
    (codes "-", λ vs. difference vs) ∷
    (codes "+", λ vs. sum vs) ∷
    (codes "*", λ vs. product vs) ∷
    (codes "/", λ vs. left (truth false) (by_numbers divide) vs) ∷
    (codes "<", λ vs. numbers_pass less (neighbours vs)) ∷
    (codes "<=", λ vs. numbers_pass at_most (neighbours vs)) ∷
    (codes ">", λ vs. numbers_pass (λ p q. less q p) (neighbours vs)) ∷
    (codes ">=", λ vs. numbers_pass (λ p q. at_most q p) (neighbours vs)) ∷ []

-- what each declared or defined name gives at its arguments' values
abbrev pub Meaning : Type 0
Meaning = Name → List Value → Value

-- The values of bound names, of which the first of a name counts.
abbrev pub Bindings : Type 0
Bindings = List (Name × Value)

-- a bound name's value, else a theory's, else the other
abbrev pub value_by : Option Value → Option (List Value → Value) → Value → List Value → Value
value_by (Some v) f other vs = v
value_by None (Some f) other vs = f vs
value_by None None other vs = other

-- the value of a name at values: a bound name hides all others
abbrev pub name_value : Meaning → Bindings → Name → List Value → Value
name_value m b n vs = value_by (look_up b n) (look_up theory_values n) (m n vs) vs

-- what is no number and no symbol has no meaning; it gets the value false
abbrev pub atom_value : Meaning → Bindings → Kind → Name → Value
atom_value m b Numeral n = number (literal_value n)
atom_value m b Decimal n = number (literal_value n)
atom_value m b Simple n = name_value m b n []
atom_value m b Quoted n = name_value m b n []
atom_value m b k n = truth false

unfoldable mutual
  -- the value of a tree; what is no term gets the value false
  pub value_of : Meaning → Bindings → Tree → Value
  value_of m b (atom at k n) = atom_value m b k n
  value_of m b (list at none end) = truth false
  value_of m b (list at (more head us) end) =
      elim (form head us) [
        | applies place n ↦ name_value m b n (values_of m b us)
        | binds ↦ let_value m b us
        | annotates ↦ first_value m b us
        | _ ↦ truth false
      ]

  -- the values of trees, in their order
  pub values_of : Meaning → Bindings → Trees → List Value
  values_of m b none = []
  values_of m b (more t ts) = value_of m b t ∷ values_of m b ts

  -- the value of a body under bindings, which bind in parallel
  pub let_value : Meaning → Bindings → Trees → Value
  let_value m b (more (list at bindings end) (more body none)) = value_of m (bound_values m b bindings ++ b) body
  let_value m b us = truth false

  -- the bound names with their values, none of them bound in the others' terms
  pub bound_values : Meaning → Bindings → Trees → Bindings
  bound_values m b (more (list at (more (atom x k n) (more t none)) end) rest) =
      (n, value_of m b t) ∷ bound_values m b rest
  bound_values m b us = []

  -- the value of a term before attributes, which change nothing
  pub first_value : Meaning → Bindings → Trees → Value
  first_value m b (more t us) = value_of m b t
  first_value m b none = truth false

-- parameters with values, in their order
abbrev pub bind : List (Name × Sort) → List Value → Bindings
bind (p ∷ ps) (v ∷ vs) = (p.0, v) ∷ bind ps vs
bind ps vs = []

-- what names give with one declaration more: a definition has its body's value where its parameters have the arguments'
-- values
abbrev pub with_meaning : Meaning → Declaration → Meaning
with_meaning m (of_function (defined d)) n vs =
    if bytes_eq d.name n then value_of m (bind d.parameters vs) d.body else m n vs
with_meaning m d n vs = m n vs

-- what names give after declarations: each body means what it did where it was defined
abbrev pub meaning_after : Meaning → Signature → Meaning
meaning_after m [] = m
meaning_after m (d ∷ ds) = meaning_after (with_meaning m d) ds

-- what the names of a signature give under an interpretation, which gives a table to each declared one
abbrev pub meaning_of : Interpretation → Signature → Meaning
meaning_of i s = meaning_after (table_value i) s

-- the value of a text under an interpretation, with the definitions of a signature
abbrev pub value_under : Interpretation → Signature → Tree → Value
value_under i s t = value_of (meaning_of i s) [] t
