-- What takes arguments of given sorts, before terms.
use Rattle.std.proofs.Common.{◌≡◌, ℕ, true, false, List, [], ◌∷◌, length, map, refl, ap, ◌∙◌, arith}
use Rattle.std.proofs.lemmas.Bool.Decides.{nat_tests}
use Rattle.std.specs.Prelude.{Ok, ◌==◌}
use Rattle.spec_text.specs.declared.Fault.TheVariants.{WrongCount, WrongSort}
use Rattle.spec_text.specs.Answers.{Answer, ◌>>=◌, require, refused}
use Rattle.spec_sorts.specs.Terms.{Sort, Term, sort_of, same_sorts}
use Rattle.spec_reading.specs.Reading.{with_sorts}

module _ (sorts : List Sort) (at : ℕ) (ts : List Term) (t : Term) where
  abbrev after_sorts : Unit {0} → Answer Term
  after_sorts sorted = Ok t

  abbrev after_count : Unit {0} → Answer Term
  after_count counted = require (same_sorts sorts (map sort_of ts)) at WrongSort >>= after_sorts

  pub other_count : (length ts == length sorts) ≡ false → with_sorts sorts at ts t ≡ refused at WrongCount
  unfolding require ◌>>=◌
  other_count e = ap (λ b. require b at WrongCount >>= after_count) e

  counted_is : (length ts == length sorts) ≡ true → with_sorts sorts at ts t ≡ after_count tt
  unfolding require ◌>>=◌
  counted_is e = ap (λ b. require b at WrongCount >>= after_count) e

  pub other_sorts : (length ts == length sorts) ≡ true → same_sorts sorts (map sort_of ts) ≡ false → with_sorts sorts at ts t ≡ refused at WrongSort
  unfolding require ◌>>=◌
  other_sorts e f = counted_is e ∙ ap (λ b. require b at WrongSort >>= after_sorts) f

  pub those_sorts : (length ts == length sorts) ≡ true → same_sorts sorts (map sort_of ts) ≡ true → with_sorts sorts at ts t ≡ Ok t
  unfolding require ◌>>=◌
  those_sorts e f = counted_is e ∙ ap (λ b. require b at WrongSort >>= after_sorts) f

-- lengths as they are counted
pub other_length : (ts : List Term) (ss : List Sort) (n m : ℕ) → length ts ≡ n → length ss ≡ m → (n ≡ m → ⊥) → (length ts == length ss) ≡ false
other_length ts ss n m l k apart = grind (arith, nat_tests, l, k, apart)

pub same_length : (ts : List Term) (ss : List Sort) (n m : ℕ) → length ts ≡ n → length ss ≡ m → n ≡ m → (length ts == length ss) ≡ true
same_length ts ss n m l k one = grind (arith, nat_tests, l, k, one)

pub no_sorts : (ts : List Term) → length ts ≡ 0 → same_sorts [] (map sort_of ts) ≡ true
no_sorts [] e = refl
no_sorts (t ∷ ts) e = absurd (omega (arith, e))
