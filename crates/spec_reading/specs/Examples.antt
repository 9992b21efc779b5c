-- Texts with the definitions that they make, and with the first operation of their terms that overflows.
use Rattle.std.specs.Prelude.{◌++◌, ◌≡◌, refl, ℕ, ◌^◌, pos, negsuc, true, List, [], ◌∷◌, map, Result, Ok, Err, codes}
use Rattle.spec_numbers.specs.declared.Op.TheVariants.{Add, Sub, Mul}
use Rattle.spec_numbers.specs.Fractions.{Fraction, whole, plus, opposite, times, inverse}
use Rattle.spec_numbers.specs.Bounds.{Overflow, added, subtracted, multiplied, divided, is_small, fits, sum_fits}
use Rattle.spec_text.specs.Bytes.{Name}
use Rattle.spec_text.specs.declared.Fault.TheVariants.{BadShape, Reserved}
use Rattle.spec_text.specs.Answers.{Answer, refused}
use Rattle.spec_text.specs.Trees.{Trees, more, none}
use Rattle.spec_sorts.specs.Written.{trees_in}
use Rattle.spec_sorts.specs.Values.{Value, truth, number, Table, Interpretation}
use Rattle.spec_sorts.specs.BoundedValues.{folded, bounded_value}
use Rattle.spec_sorts.specs.Signatures.{Definition}
use Rattle.spec_reading.specs.Names.{Setting, script, elsewhere, proof}
use Rattle.spec_reading.specs.Reading.{Reading, reading}
use Rattle.spec_reading.specs.OnLiterals.{reading_on_literals}

-- what the first tree of some is read as, without other names
abbrev pub first_reading : Setting → Trees → Answer Reading
first_reading w (more t ts) = reading w [] [] t
first_reading w none = refused 0 BadShape

-- the names of definitions, in their order
abbrev pub names_made : Answer Reading → Answer (List Name)
names_made (Ok r) = Ok (map (λ (d : Definition). d.name) r.made)
names_made (Err f) = Err f

-- the names that a text makes
abbrev pub made_in : Setting → List ℕ → Answer (List Name)
made_in w text = names_made (first_reading w (trees_in text))

-- no symbol has a table of its own
abbrev pub no_symbols : Interpretation
no_symbols = record { table = table }
  where
    table : Name → Table
    table n = record { rows = []; default = truth true }

-- the bounded value of what is read
abbrev pub bounded_reading : Answer Reading → Result Value Overflow
bounded_reading (Ok r) = bounded_value no_symbols [] r.term
bounded_reading (Err f) = Ok (truth true)

-- the bounded value of a text without symbols
abbrev pub bounded : List ℕ → Result Value Overflow
bounded text = bounded_reading (first_reading elsewhere (trees_in text))

-- names are made from left to right, those inside of a term before its own
pub names_in_order : made_in script
    (codes "(and (! (or true (! false :named a)) :named b :named c) (let ((x (! true :named d))) (! b :named e)))")
    ≡ Ok (codes "a" ∷ codes "b" ∷ codes "c" ∷ codes "d" ∷ codes "e" ∷ [])
unfolding reading_on_literals
names_in_order = refl

-- in a term of a script that is neither asserted nor defined no name is made
pub names_elsewhere : made_in elsewhere (codes "(and true (! true :named a))") ∷ made_in elsewhere (codes "(! true :a)")
    ∷ [] ≡ refused 10 BadShape ∷ Ok [] ∷ []
unfolding reading_on_literals
names_elsewhere = refl

-- a term of a proof may make names, also kept ones
pub names_in_proofs : made_in proof (codes "(! true :named a)")
    ∷ made_in proof (codes "(and (! true :named @p_1) @p_1)") ∷ made_in script (codes "(! true :named @a)") ∷ []
    ≡ Ok (codes "a" ∷ []) ∷ Ok (codes "@p_1" ∷ []) ∷ refused 15 Reserved ∷ []
unfolding reading_on_literals
names_in_proofs = refl

-- a proof may bind kept names, and a script may not
pub kept_names : made_in proof (codes "(let ((@x true) (.y false)) (and @x .y))")
    ∷ made_in script (codes "(let ((@x true)) @x)") ∷ [] ≡ Ok [] ∷ refused 7 Reserved ∷ []
unfolding reading_on_literals
kept_names = refl

-- 10 to the power of 20
abbrev pub large : Fraction
large = whole (pos (10 ^ 20))

-- a product that leaves 128 bits
pub wide_product : bounded (codes "(+ 1 (* 100000000000000000000 100000000000000000000))")
    ≡ Err (record { op = Mul; left = large; right = large })
unfolding reading_on_literals bounded_value folded added multiplied sum_fits fits is_small plus times
wide_product = refl

-- it counts where `ite` does not choose it, too
pub wide_choice : bounded (codes "(ite true 0 (* 100000000000000000000 100000000000000000000))")
    ≡ Err (record { op = Mul; left = large; right = large })
unfolding reading_on_literals bounded_value folded multiplied fits is_small times
wide_choice = refl

-- the first of two in the order of the text counts, arguments before their head
pub first_of_two : bounded (codes "(- (- 170141183460469231731687303715884105727) (* 1 2) "
    ++ codes "(* 100000000000000000000 100000000000000000000))")
    ≡ Err (record {
      op = Sub;
      left = whole (negsuc (170141183460469231731687303715884105726));
      right = whole (pos 2);
    })
unfolding reading_on_literals bounded_value folded subtracted multiplied sum_fits fits is_small plus opposite times
first_of_two = refl

-- a sum is taken to the left: the last number would bring it back
pub sums_to_the_left : bounded (codes "(+ 170141183460469231731687303715884105727 1 (- 5))")
    ≡ Err (record { op = Add; left = whole (pos 170141183460469231731687303715884105727); right = whole (pos 1) })
unfolding reading_on_literals bounded_value folded added sum_fits fits is_small plus opposite
sums_to_the_left = refl

-- what fits has its value
pub fitting : bounded (codes "(/ (+ 0.5 (* 3 0.5)) (- 4))") ≡ Ok (number (record { num = negsuc 0; den = 2 }))
unfolding reading_on_literals bounded_value folded added multiplied divided sum_fits fits is_small plus opposite times
    inverse
fitting = refl
