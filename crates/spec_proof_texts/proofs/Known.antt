-- Lists that hold the terms that are known before a line, and with each its subterms.
use Rattle.std.proofs.Common.{inl, inr, ℕ, suc, ◌+◌, Bool, cond, List, [], ◌∷◌, ◌++◌, length, Contains, subst}
use Rattle.std.specs.Prelude.{nat_le}
use Rattle.std.proofs.lemmas.List.Elements.{Contains-append_left, Contains-append_right, Contains-push}
use Rattle.spec_text.specs.Printed.{printed}
use Rattle.spec_text.proofs.Members.{none as no_member}
use Rattle.spec_numbers.specs.Fractions.{Fraction}
use Rattle.spec_sorts.specs.Terms.{Literal, Term, Terms, app, nil, cons, of, terms_of}
use Rattle.spec_sorts.specs.Subterms.{with_subterms, with_all_subterms, subterms_of}
use Rattle.spec_sorts.specs.Subsets.{AreAmong}
use Rattle.spec_sorts.proofs.Members.{with_one}
use Rattle.spec_proof_texts.specs.Decimals.{literal_tree}
use Rattle.spec_proof_texts.specs.Lines.{Argument, Arguments, truth, number, symbol, defined, applied, no_items, item, Line, defines, assumes, steps}

-- a number as a term
abbrev pub number_term : Fraction → Term
number_term q = of (Literal q) []

-- whether a number has more than five bytes
abbrev pub is_long_number : Fraction → Bool
is_long_number q = nat_le 6 (length (printed (literal_tree q)))

abbrev mutual
  -- the long numbers in a printed term, as terms
  pub number_terms_in : Argument → List Term
  number_terms_in (number q) = cond (is_long_number q) (number_term q ∷ []) []
  number_terms_in (applied h items) = number_terms_within items
  number_terms_in (truth b) = []
  number_terms_in (symbol n) = []
  number_terms_in (defined n) = []

  -- and in printed terms
  pub number_terms_within : Arguments → List Term
  number_terms_within no_items = []
  number_terms_within (item a others) = number_terms_in a ++ number_terms_within others

-- the long numbers among arguments, as terms
abbrev pub number_terms : List Argument → List Term
number_terms [] = []
number_terms (a ∷ items) = number_terms_in a ++ number_terms items

-- how many they are
abbrev pub numbers_among : List Argument → ℕ
numbers_among items = length (number_terms items)

-- how many there are in lines
abbrev pub numbers_in : List Line → ℕ
numbers_in [] = 0
numbers_in (defines d ∷ lines) = numbers_among d.arguments + numbers_in lines
numbers_in (assumes n a ∷ lines) = numbers_among (a ∷ []) + numbers_in lines
numbers_in (steps s ∷ lines) = numbers_among s.literals + numbers_in lines

-- how many of the lines are definitions
abbrev pub definitions_in : List Line → ℕ
definitions_in [] = 0
definitions_in (defines d ∷ lines) = suc (definitions_in lines)
definitions_in (assumes n a ∷ lines) = definitions_in lines
definitions_in (steps s ∷ lines) = definitions_in lines

abbrev mutual
  -- a list has a term and all its subterms
  pub IsHeld : List Term → Term → Type 0
  IsHeld us (app h ts) = Contains us (app h ts) × AreHeld us ts

  -- and those of terms
  pub AreHeld : List Term → Terms → Type 0
  AreHeld us nil = Unit {0}
  AreHeld us (cons t ts) = IsHeld us t × AreHeld us ts

-- a list has the subterms of a term that it need not have itself
abbrev pub IsHeldBelow : List Term → Term → Type 0
IsHeldBelow us (app h ts) = AreHeld us ts

-- a list with more has them too
mutual
  pub held_among : (us vs : List Term) → AreAmong us vs → (t : Term) → IsHeld us t → IsHeld vs t
  held_among us vs among (app h ts) held = (among (app h ts) held.0, all_held_among us vs among ts held.1)

  pub all_held_among : (us vs : List Term) → AreAmong us vs → (ts : Terms) → AreHeld us ts → AreHeld vs ts
  all_held_among us vs among nil held = tt
  all_held_among us vs among (cons t ts) held = (held_among us vs among t held.0, all_held_among us vs among ts held.1)

pub left_among : (us vs : List Term) → AreAmong us (us ++ vs)
left_among us vs t c = Contains-append_left us vs t c

pub right_among : (us vs : List Term) → AreAmong vs (us ++ vs)
right_among us vs t c = Contains-append_right us vs t c

-- a term after its subterms
pub held_more : (us : List Term) (t : Term) → IsHeldBelow us t → IsHeld (us ++ t ∷ []) t
held_more us (app h ts) below = (Contains-push us (app h ts), all_held_among us (us ++ app h ts ∷ []) (left_among us (app h ts ∷ [])) ts below)

-- so the different subterms of such terms are among the list
mutual
  unfolding with_subterms with_all_subterms

  subterms_among : (us seen : List Term) → AreAmong seen us → (t : Term) → IsHeld us t → AreAmong (with_subterms seen t) us
  subterms_among us seen among (app h ts) held u c =
      let all = all_subterms_among us seen among ts held.1 in
      elim ((with_one (with_all_subterms seen ts) (app h ts)).no_others u c) [
        | inl e ↦ subst (Contains us) e held.0
        | inr c2 ↦ all u c2
      ]

  all_subterms_among : (us seen : List Term) → AreAmong seen us → (ts : Terms) → AreHeld us ts → AreAmong (with_all_subterms seen ts) us
  all_subterms_among us seen among nil held = among
  all_subterms_among us seen among (cons t ts) held = all_subterms_among us (with_subterms seen t) (subterms_among us seen among t held.0) ts held.1

pub held_subterms : (us : List Term) (ts : List Term) → AreHeld us (terms_of ts) → AreAmong (subterms_of ts) us
held_subterms us [] held = λ t c. absurd (no_member t c)
held_subterms us (t ∷ ts) held = subterms_among us (subterms_of ts) (held_subterms us ts held.1) t held.0
