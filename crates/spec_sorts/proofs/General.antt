-- Lists of arguments and their sorts, complements of literals, and digits one after the other.
use Rattle.std.proofs.Common.{◌≡◌, ℕ, ◌+◌, ◌*◌, ◌-◌, Bool, true, false, cond, List, [], ◌∷◌, ◌++◌, map, refl, ap, ◌∙◌, length}
use Rattle.std.specs.Prelude.{◌==◌, not}
use Rattle.std.proofs.lemmas.Bool.{false≢true}
use Rattle.spec_sorts.specs.Numerals.{number_after, trimmed, before_trimmed}
use Rattle.spec_sorts.specs.Terms.{Term, Terms, nil, cons, terms_of, list_of, sort_of, sorts_of, Sort, Equal, head_takes}
use Rattle.spec_sorts.specs.Literals.{Literal, complement}

-- the terms of a list are those of the list
pub list_of-terms_of : (ts : List Term) → list_of (terms_of ts) ≡ ts
list_of-terms_of [] = refl
list_of-terms_of (t ∷ ts) = λ i. t ∷ list_of-terms_of ts i

-- the sorts of terms are those of their list
pub sorts_listed : (ts : Terms) → sorts_of ts ≡ map sort_of (list_of ts)
sorts_listed nil = refl
sorts_listed (cons t ts) = ap (λ ss. sort_of t ∷ ss) (sorts_listed ts)

-- an equality has two sides
pub equal_takes : (ss : List Sort) → head_takes [] Equal ss ≡ true → length ss ≡ 2
equal_takes (s ∷ t ∷ []) e = refl
equal_takes _ e = absurd (false≢true e)

-- a literal's complement has it as its complement
pub complement-twice : (l : Literal) → complement (complement l) ≡ l
complement-twice l = ap (λ b. record { atom = l.atom; positive = b }) (twice l.positive)
  where
    twice : (b : Bool) → not (not b) ≡ b
    twice true = refl
    twice false = refl

-- digits, and others after them
pub number_along : (n : ℕ) (ds es : List ℕ) → number_after n (ds ++ es) ≡ number_after (number_after n ds) es
number_along n [] es = refl
number_along n (d ∷ ds) es = number_along (n * 10 + (d - 48)) ds es

-- digits that end with another one than 0 keep their end
pub trimmed_other : (ds : List ℕ) (d : ℕ) → (d == 48) ≡ false → trimmed (ds ++ d ∷ []) ≡ ds ++ d ∷ []
trimmed_other [] d e = ap (λ b. cond b [] (d ∷ [])) e
trimmed_other (c ∷ ds) d e = ap (before_trimmed c) (trimmed_other ds d e) ∙ longer c ds d
  where
    longer : (c : ℕ) (ds : List ℕ) (d : ℕ) → before_trimmed c (ds ++ d ∷ []) ≡ c ∷ ds ++ d ∷ []
    longer c [] d = refl
    longer c (b ∷ ds) d = refl
