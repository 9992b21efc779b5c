-- Numbers as arguments of steps are made of words.
use Rattle.std.proofs.Common.{ℕ, suc, Bool, true, false, cond, pos, negsuc, ℤ, List, [], ◌∷◌, map, refl}
use Rattle.std.specs.Prelude.{codes, nat_eq}
use Rattle.spec_text.specs.Lexicon.{numeral as numeral_word}
use Rattle.spec_numbers.specs.Fractions.{Fraction}
use Rattle.spec_models.specs.Values.{trees_of, in_list, word_tree, numeral, numeral_tree, whole_tree, fraction_tree}
use Rattle.spec_models.proofs.Numerals.{numeral_is}
use Rattle.spec_models.proofs.Values.{bare_word}
use Rattle.spec_proof_texts.specs.Meaning.{IsSpelled, AreSpelled}

numeral_spelled : (n : ℕ) → IsSpelled (numeral_tree n)
numeral_spelled n = (numeral n, numeral_word (numeral n) (numeral_is n))

whole_spelled : (z : ℤ) → IsSpelled (whole_tree z)
whole_spelled (pos n) = numeral_spelled n
whole_spelled (negsuc n) = (bare_word 45 [] refl, (numeral_spelled (suc n), tt))

pub number_spelled : (q : Fraction) → IsSpelled (fraction_tree q)
number_spelled q = go (nat_eq q.den 1)
  where
    go : (b : Bool) → IsSpelled (cond b (whole_tree q.num) (in_list (word_tree (codes "/") ∷ whole_tree q.num ∷ numeral_tree q.den ∷ [])))
    go true = whole_spelled q.num
    go false = (bare_word 47 [] refl, (whole_spelled q.num, (numeral_spelled q.den, tt)))

all_spelled : (qs : List Fraction) → AreSpelled (trees_of (map fraction_tree qs))
all_spelled [] = tt
all_spelled (q ∷ qs) = (number_spelled q, all_spelled qs)

pub numbers_given : (qs : List Fraction) → AreSpelled (trees_of (map fraction_tree qs))
numbers_given qs = all_spelled qs
