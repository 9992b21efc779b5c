-- Values and models as they are written, and what they are read as.
use Rattle.std.specs.Prelude.{◌++◌, ◌≡◌, refl, ℕ, ◌^◌, pos, negsuc, true, false, List, [], ◌∷◌, codes, if◌then◌else◌, ⊤}
use Rattle.std.specs.Str.{bytes_eq}
use Rattle.spec_text.specs.Lexemes.{lexemes, first_piece}
use Rattle.spec_numbers.specs.Fractions.{gcd, plus, opposite, times, inverse}
use Rattle.spec_sorts.specs.Written.{built, trees_in}
use Rattle.spec_sorts.specs.Numerals.{literal_value}
use Rattle.spec_sorts.specs.Terms.{Truth, Number, Declared, constant}
use Rattle.spec_sorts.specs.Values.{Value, truth, number, element, Table, Interpretation}
use Rattle.spec_sorts.specs.Meaning.{Meaning}
use Rattle.spec_models.specs.Values.{numeral, value_text}
use Rattle.spec_models.specs.Models.{model_text}
use Rattle.spec_models.specs.Meaning.{model_value, model_values}

-- the truth values
pub truths : (value_text (truth true) ≡ codes "true") × (value_text (truth false) ≡ codes "false")
truths = (refl, refl)

-- a whole number, and 0
pub whole : (value_text (number (record { num = pos 5; den = 1 })) ≡ codes "5")
    × (value_text (number (record { num = pos 0; den = 1 })) ≡ codes "0")
unfolding numeral
whole = (refl, refl)

-- one below 0
pub negative : value_text (number (record { num = negsuc 4; den = 1 })) ≡ codes "(- 5)"
unfolding numeral
negative = refl

-- a fraction
pub fraction : value_text (number (record { num = pos 1; den = 3 })) ≡ codes "(/ 1 3)"
unfolding numeral
fraction = refl

-- one below 0
pub negative_fraction : value_text (number (record { num = negsuc 0; den = 3 })) ≡ codes "(/ (- 1) 3)"
unfolding numeral
negative_fraction = refl

-- a number of more than 64 digits
pub large : value_text (number (record { num = pos (10 ^ 70); den = 1 }))
    ≡ codes "10000000000000000000000000000000000000000000000000000000000000000000000"
unfolding numeral
large = refl

-- an element of a declared sort
pub element_of_sort : value_text (element (codes "U V") 12) ≡ codes "(as @e12 |U V|)"
unfolding numeral
element_of_sort = refl

-- a value without parameters
abbrev pub always : Value → Table
always v = record { rows = []; default = v }

-- a function of two arguments by two rows, a constant, and what has no table of its own
abbrev pub tables : Interpretation
tables = record {
  table = λ n. if bytes_eq n (codes "f") then f else if bytes_eq n (codes "c") then always
      (number (record { num = negsuc 0; den = 2 })) else always (truth false);
}
  where
    f : Table
    f = record {
      rows = record { arguments = truth true ∷ truth false ∷ []; value = truth false }
          ∷ record { arguments = truth false ∷ truth false ∷ []; value = truth true } ∷ [];
      default = truth true;
    }

-- no symbols
pub no_symbols : model_text tables [] ≡ codes "(\n)\n"
no_symbols = refl

-- constants, in their order
pub constants : model_text tables (constant (codes "p q") Truth ∷ constant (codes "c") Number ∷ [])
    ≡ codes "(\n  (define-fun |p q| () Bool false)\n  (define-fun c () Real (/ (- 1) 2))\n)\n"
unfolding numeral
constants = refl

-- a function by its rows
pub function : model_text tables (record { name = codes "f"; parameters = Truth ∷ Truth ∷ []; result = Truth } ∷ [])
    ≡ (codes "(\n  (define-fun f ((@x0 Bool) (@x1 Bool)) Bool (ite (and (= @x0 true) (= @x1 false)) "
    ++ codes "false (ite (and (= @x0 false) (= @x1 false)) true true)))\n)\n")
unfolding numeral
function = refl

-- of one argument, by one row
abbrev pub one_row : Interpretation
one_row = record {
  table = λ n. record {
    rows = record { arguments = truth true ∷ []; value = element (codes "U") 0 }
        ∷ [];
    default = element (codes "U") 1;
  };
}

-- its condition is alone
pub one_condition : model_text one_row (record {
  name = codes "g";
  parameters = Truth ∷ [];
  result = Declared (codes "U");
} ∷ [])
    ≡ codes "(\n  (define-fun g ((@x0 Bool)) U (ite (= @x0 true) (as @e0 U) (as @e1 U)))\n)\n"
unfolding numeral
one_condition = refl

-- what names give where none is declared
abbrev pub no_names : Meaning
no_names n vs = truth false

-- the values of the trees of a text of a model
abbrev pub values : List ℕ → List Value
values text = model_values no_names [] (trees_in text)

-- what a proof unfolds to compute the values of texts that are written out
unfoldable pub model_values_on_literals : ⊤
unfolding lexemes first_piece built gcd plus opposite times inverse literal_value numeral model_value
model_values_on_literals = tt

-- the text of an element is that element, with bars or without
pub elements : values (codes "(as @e0 U) (as @e12 |U V|) (as |@e3| U)") ≡ element (codes "U") 0
    ∷ element (codes "U V") 12 ∷ element (codes "U") 3 ∷ []
unfolding model_values_on_literals
elements = refl

-- elements may be wherever terms may
pub elements_inside : values (codes "(= (as @e0 U) (as @e0 U)) (= (as @e0 U) (as @e1 U)) (let ((x (as @e2 U))) x) "
    ++ codes "(ite false (as @e0 U) (! (as @e1 U) :a 1))") ≡ truth true ∷ truth false ∷ element (codes "U") 2
    ∷ element (codes "U") 1 ∷ []
unfolding model_values_on_literals
elements_inside = refl

-- a word that is none of an element's, or a list of another shape, stands for none
pub no_elements : values (codes "(as @e U) (as @e00 U) (as @e1x U) (as e1 U) (as @e1 (U)) (as @e1)")
    ≡ truth false ∷ truth false ∷ truth false ∷ truth false ∷ truth false ∷ truth false ∷ []
unfolding model_values_on_literals
no_elements = refl

-- numbers as they are printed
pub numbers : values (codes "5 (- 5) (/ 1 3) (/ (- 1) 3)") ≡ number (record { num = pos 5; den = 1 })
    ∷ number (record { num = negsuc 4; den = 1 }) ∷ number (record { num = pos 1; den = 3 })
    ∷ number (record { num = negsuc 0; den = 3 }) ∷ []
unfolding model_values_on_literals
numbers = refl
