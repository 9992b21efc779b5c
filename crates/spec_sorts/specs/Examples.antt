-- Texts with their values under an interpretation.
use Rattle.std.specs.Prelude.{◌++◌, ◌≡◌, refl, ℕ, pos, negsuc, true, List, [], ◌∷◌, codes, if◌then◌else◌, ⊤}
use Rattle.std.proofs.Common.{arith}
use Rattle.std.specs.Str.{bytes_eq}
use Rattle.spec_text.specs.Lexemes.{lexemes, first_piece}
use Rattle.spec_text.specs.Bytes.{Name}
use Rattle.spec_text.specs.Trees.{Tree, Trees, list, none, more}
use Rattle.spec_sorts.specs.Written.{built, trees_in}
use Rattle.spec_numbers.specs.Fractions.{IsReduced, gcd, plus, opposite, times, inverse, compare}
use Rattle.spec_sorts.specs.Numerals.{literal_value}
use Rattle.spec_sorts.specs.Terms.{Number, Literal, of}
use Rattle.spec_sorts.specs.Values.{HasSort, Value, truth, number, element, Table, Interpretation}
use Rattle.spec_sorts.specs.Signatures.{Signature, definition}
use Rattle.spec_sorts.specs.Meaning.{value_of, values_of, meaning_of}

-- a fraction as a value
abbrev pub half : Value
half = number (record { num = pos 1; den = 2 })

-- a table that gives one value everywhere
abbrev pub always : Value → Table
always v = record { rows = []; default = v }

-- p is true, x is 1/2, a and b are elements 0 and 1 of one sort, f maps 1/2 to 3 and all else to -1
abbrev pub world : Interpretation
world = record { table = table }
  where
    table : Name → Table
    table n =
        if bytes_eq n (codes "p") then always (truth true)
        else if bytes_eq n (codes "x") then always half
        else if bytes_eq n (codes "a") then always (element (codes "U") 0)
        else if bytes_eq n (codes "b") then always (element (codes "U") 1)
        else record {
          rows = (record { arguments = half ∷ []; value = number (record { num = pos 3; den = 1 }) }) ∷ [];
          default = number (record { num = negsuc 0; den = 1 });
        }

-- the tree of a text that has one
abbrev pub only_tree_of : Trees → Tree
only_tree_of (more t ts) = t
only_tree_of none = list 0 none 0

-- d is f of x, and double adds its parameter to itself
abbrev pub definitions : Signature
definitions =
    definition (record {
      name = codes "d";
      parameters = [];
      result = Number;
      body = only_tree_of (trees_in (codes "(f x)"));
      term = of (Literal (record { num = pos 3; den = 1 })) [];
    }) ∷
    definition (record {
      name = codes "double";
      parameters = (codes "d", Number) ∷ [];
      result = Number;
      body = only_tree_of (trees_in (codes "(+ d d)"));
      term = of (Literal (record { num = pos 3; den = 1 })) [];
    })
    ∷ []

-- the values of the trees of a text
abbrev pub values : List ℕ → List Value
values text = values_of (meaning_of world definitions) [] (trees_in text)

-- 2/4 is no value of sort Real, since it is not in lowest terms
pub not_reduced : HasSort Number (number (record { num = pos 2; den = 4 })) → ⊥
unfolding gcd
not_reduced h = omega (arith, coprime h)
  where
    coprime : IsReduced (record { num = pos 2; den = 4 }) → gcd 2 4 ≡ 1
    coprime r = r.coprime

-- the values of a number and of a truth value, as they are
pub plain_values : values (codes "0.50 true") ≡ half ∷ truth true ∷ []
unfolding lexemes first_piece built gcd literal_value value_of
plain_values = refl

-- what a proof unfolds to compute the values of texts that are written out
unfoldable pub values_on_literals : ⊤
unfolding lexemes first_piece built gcd plus opposite times inverse compare literal_value value_of
values_on_literals = tt

-- zeros at the end of a decimal change nothing
pub literals : values (codes "0.50 7.0 10") ≡ values (codes "(/ 1 2) 7 10.0")
unfolding values_on_literals
literals = refl

-- a chain compares neighbours, and `distinct` compares all pairs
pub chains : values (codes "(= x 0.5 (/ 2 4)) (= x 0.5 1) (distinct 1 2 1) (distinct 1 2 3) (< 0 x 1) (< 0 1 x) "
    ++ codes "(<= x x 1) (> 1 x 0) (>= x x 1)") ≡ values (codes "true false false true true false true true false")
unfolding values_on_literals
chains = refl

-- differences, quotients and `xor` go to the left, and implications to the right
pub to_the_left : values (codes "(- 1 2 3) (/ 1 2 4) (xor p p p) (=> p false p) (=> (=> p false) false)")
    ≡ values (codes "(- 4) 0.125 true true true")
unfolding values_on_literals
to_the_left = refl

-- sums and products, of one number too, are in lowest terms
pub sums : values (codes "(+ x) (* x) (+ x x x) (* x x (- 2)) (- x x) (+ (/ 1 3) (/ 1 6)) (- (/ (- 1) 3))")
    ≡ values (codes "0.5 0.5 1.5 (- 0.5) 0 0.5 (/ 1 3)")
unfolding values_on_literals
sums = refl

-- `ite` gives its second or its third argument, of any sort
pub choices : values (codes "(ite p x 1) (ite (not p) x 1) (= a (ite p b a)) (= b (ite p b a))")
    ≡ values (codes "0.5 1 false true")
unfolding values_on_literals
choices = refl

-- a function has the value of the first row that fits, else its default
pub tables : values (codes "(f x) (f 0.50) (f 1) (f (- x))") ≡ values (codes "3 3 (- 1) (- 1)")
unfolding values_on_literals
tables = refl

-- bindings bind in parallel, and a bound name hides all others
pub lets : values (codes "(let ((x 1)) x) (let ((x 1)) (let ((x 2) (y x)) (+ x y))) (let ((p false) (q p)) "
    ++ codes "(and q (not p))) (let ((d 2)) (double d))") ≡ values (codes "1 3 true 4")
unfolding values_on_literals
lets = refl

-- a definition has the value of its body, in which its own parameters hide what else has their names
pub definitions_by_their_texts : values (codes "d (double 1) (double d) (+ d (double (double x)))")
    ≡ values (codes "3 2 6 5")
unfolding values_on_literals
definitions_by_their_texts = refl

-- attributes change nothing
pub annotations : values (codes "(! x :a 1 :named n) (+ (! x :named n) 1)") ≡ values (codes "0.5 1.5")
unfolding values_on_literals
annotations = refl

-- a name in bars is that name
pub quoted_names : values (codes "|x| (|+| |x| 1) (|f| x)") ≡ values (codes "0.5 1.5 3")
unfolding values_on_literals
quoted_names = refl
