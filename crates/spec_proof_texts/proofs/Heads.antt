-- Printed terms are read as what they were printed for, and definitions as their heads before their arguments.
use Rattle.std.proofs.Common.{◌≡◌, ◌≢◌, inl, inr, le-leb, ℕ, suc, ◌+◌, Bool, true, false, cond, List, [], ◌∷◌, ◌++◌, length, map, None, refl, sym, ap, ◌∙◌, append-nil, arith}
use Rattle.std.specs.Prelude.{◌&&◌, ◌⊎◌, ◌==◌, Ok, nat_le, codes}
use Rattle.std.proofs.lemmas.Bool.{false≢true, and_parts}
use Rattle.std.proofs.lemmas.Bool.Decides.{nat_tests}
use Rattle.std.proofs.lemmas.List.{length-map}
use Rattle.spec_text.specs.declared.Kind.TheVariants.{Simple, Quoted}
use Rattle.spec_text.specs.declared.Fault.TheVariants.{WrongCount, WrongSort}
use Rattle.spec_text.specs.Bytes.{Name}
use Rattle.spec_text.specs.Answers.{◌>>=◌, require}
use Rattle.spec_text.specs.Trees.{Tree, Trees, list, none, more}
use Rattle.spec_text.specs.Printed.{is_bare, printed}
use Rattle.spec_text.proofs.Printing.{moved, moved_all}
use Rattle.spec_text.proofs.AnswerLaws.{joined}
use Rattle.spec_sorts.specs.Terms.{Sort, Truth, Number, Head, True, False, Not, And, Or, Xor, Implies, Equal, Ite, Minus, Plus, Times, Divide, Less, AtMost, Literal, Apply, Parameter, Term, of, no_term, pair, sort_of, same_sort, same_sorts, all_same, head_takes}
use Rattle.spec_sorts.specs.Lists.{left, right, neighbours}
use Rattle.spec_sorts.specs.Theory.{each_of, alike, choice, sorts_fit, exactly, at_least, each_pair, differences, product_fault, quotient_fault}
use Rattle.spec_sorts.specs.Signatures.{declared, Signature}
use Rattle.spec_sorts.specs.HeadNames.{head_name}
use Rattle.spec_sorts.specs.Forms.{Form, applies, head_form}
use Rattle.spec_sorts.proofs.WellSorted.{less_takes, at_most_takes}
use Rattle.spec_reading.specs.Names.{Setting}
use Rattle.spec_reading.specs.Reading.{plain_reading, with_sorts, applied, applied_as, reading, readings}
use Rattle.spec_reading.proofs.Values.{by_form, rule_reads}
use Rattle.spec_models.specs.Values.{trees_of, in_list, symbol_tree}
use Rattle.spec_proof_texts.specs.Lines.{Argument, Arguments, truth, number, symbol, defined, applied as in_place, no_items, item, DefinitionLine, argument_tree, argument_trees, term_tree}
use Rattle.spec_proof_texts.specs.Meaning.{Told, IsTold, AreToldSo, AreTold, TakesAll}
use Rattle.spec_proof_texts.specs.ReadBack.{AreScriptNames}
use Rattle.spec_proof_texts.proofs.Arguments.{Knows, own_name, word_read}

-- what holds of one term, or of two, of given sorts
one_of : (P : List Term → Type 0) (ts : List Term) (a : Sort) → map sort_of ts ≡ a ∷ [] → ((t : Term) → sort_of t ∷ [] ≡ a ∷ [] → P (t ∷ [])) → P ts
one_of P [] a e f = cc
one_of P (t ∷ []) a e f = f t e
one_of P (t ∷ u ∷ us) a e f = cc

two_of : (P : List Term → Type 0) (ts : List Term) (a b : Sort) → map sort_of ts ≡ a ∷ b ∷ [] → ((t u : Term) → sort_of t ∷ sort_of u ∷ [] ≡ a ∷ b ∷ [] → P (t ∷ u ∷ [])) → P ts
two_of P [] a b e f = cc
two_of P (t ∷ []) a b e f = cc
two_of P (t ∷ u ∷ []) a b e f = f t u e
two_of P (t ∷ u ∷ v ∷ vs) a b e f = cc

-- the sorts that a head takes
not_sorts : (ss : List Sort) → head_takes [] Not ss ≡ true → ss ≡ Truth ∷ []
not_sorts (Truth ∷ []) e = refl
not_sorts _ e = absurd (false≢true e)

xor_sorts : (ss : List Sort) → head_takes [] Xor ss ≡ true → ss ≡ Truth ∷ Truth ∷ []
xor_sorts (Truth ∷ Truth ∷ []) e = refl
xor_sorts _ e = absurd (false≢true e)

implies_sorts : (ss : List Sort) → head_takes [] Implies ss ≡ true → ss ≡ Truth ∷ Truth ∷ []
implies_sorts (Truth ∷ Truth ∷ []) e = refl
implies_sorts _ e = absurd (false≢true e)

divide_sorts : (ss : List Sort) → head_takes [] Divide ss ≡ true → ss ≡ Number ∷ Number ∷ []
divide_sorts (Number ∷ Number ∷ []) e = refl
divide_sorts _ e = absurd (false≢true e)

-- negation and difference
minus_sorts : (ss : List Sort) → head_takes [] Minus ss ≡ true → (ss ≡ Number ∷ []) ⊎ (ss ≡ Number ∷ Number ∷ [])
minus_sorts (Number ∷ []) e = inl refl
minus_sorts (Number ∷ Number ∷ []) e = inr refl
minus_sorts _ e = absurd (false≢true e)

-- two of one sort
equal_fits : (ss : List Sort) → head_takes [] Equal ss ≡ true → (length ss ≡ 2) × (sorts_fit alike ss ≡ true)
equal_fits (s ∷ t ∷ []) e = (refl, ap (λ b. b && true) e)
equal_fits [] e = absurd (false≢true e)
equal_fits (s ∷ []) e = absurd (false≢true e)
equal_fits (s ∷ t ∷ r ∷ rs) e = absurd (false≢true e)

ite_fits : (ss : List Sort) → head_takes [] Ite ss ≡ true → (length ss ≡ 3) × (sorts_fit choice ss ≡ true)
ite_fits (Truth ∷ s ∷ t ∷ []) e = (refl, e)
ite_fits _ e = absurd (false≢true e)

-- one at least
enough : (n : ℕ) → (nat_le 1 (suc n) && true) ≡ true
enough n = ap (λ b. b && true) (le-leb 1 (suc n) (omega arith))

-- as many sorts are the same
as_many : (ss rs : List Sort) → same_sorts ss rs ≡ true → length rs ≡ length ss
as_many [] [] e = refl
as_many [] (r ∷ rs) e = absurd (false≢true e)
as_many (s ∷ ss) [] e = absurd (false≢true e)
as_many (s ∷ ss) (r ∷ rs) e = ap suc (as_many ss rs (and_parts (same_sort s r) (same_sorts ss rs) e).1)

-- what takes arguments of these sorts reads a term
with_sorts_reads : (ss : List Sort) (at : ℕ) (ts : List Term) (t : Term) → same_sorts ss (map sort_of ts) ≡ true → with_sorts ss at ts t ≡ Ok t
unfolding require ◌>>=◌
with_sorts_reads ss at ts t fit =
    let count : length ts ≡ length ss = sym (length-map ts sort_of) ∙ as_many ss (map sort_of ts) fit in
    let counted : (length ts == length ss) ≡ true = grind (arith, nat_tests, count) in
    ap (λ b. require b at WrongCount >>= λ c. require (same_sorts ss (map sort_of ts)) at WrongSort >>= λ sorted. Ok t) counted
    ∙ ap (λ b. require b at WrongSort >>= λ sorted. Ok t) fit

module _ (g : Signature) (own : AreScriptNames g) (told : Told) (s : Signature) (knows : Knows g told s) where
  -- a head before as many arguments as it takes
  head_read : (h : Head) (ts : List Term) → TakesAll g h ts → ts ≢ [] → (place at : ℕ) → applied s [] place (head_name h) at ts ≡ Ok (of h ts)
  unfolding require ◌>>=◌
  head_read h [] takes some place at = absurd (some refl)
  head_read True (t ∷ ts) takes some place at = absurd (false≢true takes.takes)
  head_read False (t ∷ ts) takes some place at = absurd (false≢true takes.takes)
  head_read (Literal q) (t ∷ ts) takes some place at = absurd (false≢true takes.takes)
  head_read (Parameter k r) (t ∷ ts) takes some place at = absurd (false≢true takes.takes)
  head_read Not (t ∷ ts) takes some place at = one_of (λ us. applied s [] place (codes "not") at us ≡ Ok (of Not us)) (t ∷ ts) Truth (not_sorts (map sort_of (t ∷ ts)) takes.takes) (λ u e. rule_reads (exactly 1 (each_of Truth) (λ us. of Not us)) at (u ∷ []) refl (ap (all_same Truth) e) refl)
  head_read And (t ∷ ts) takes some place at = rule_reads (at_least 1 (each_of Truth) (λ us. of And us)) at (t ∷ ts) (enough (length ts)) takes.takes refl
  head_read Or (t ∷ ts) takes some place at = rule_reads (at_least 1 (each_of Truth) (λ us. of Or us)) at (t ∷ ts) (enough (length ts)) takes.takes refl
  head_read Plus (t ∷ ts) takes some place at = rule_reads (at_least 1 (each_of Number) (λ us. of Plus us)) at (t ∷ ts) (enough (length ts)) takes.takes refl
  head_read Times (t ∷ ts) takes some place at = rule_reads (record (at_least 1 (each_of Number) (λ us. of Times us)) { fault = product_fault }) at (t ∷ ts) (enough (length ts)) takes.takes takes.linear
  head_read Xor (t ∷ ts) takes some place at = two_of (λ us. applied s [] place (codes "xor") at us ≡ Ok (of Xor us)) (t ∷ ts) Truth Truth (xor_sorts (map sort_of (t ∷ ts)) takes.takes) (λ u v e. rule_reads (at_least 2 (each_of Truth) (λ us. left no_term (pair Xor) us)) at (u ∷ v ∷ []) refl (ap (all_same Truth) e) refl)
  head_read Implies (t ∷ ts) takes some place at = two_of (λ us. applied s [] place (codes "=>") at us ≡ Ok (of Implies us)) (t ∷ ts) Truth Truth (implies_sorts (map sort_of (t ∷ ts)) takes.takes) (λ u v e. rule_reads (at_least 2 (each_of Truth) (λ us. right no_term (pair Implies) us)) at (u ∷ v ∷ []) refl (ap (all_same Truth) e) refl)
  head_read Less (t ∷ ts) takes some place at = two_of (λ us. applied s [] place (codes "<") at us ≡ Ok (of Less us)) (t ∷ ts) Number Number (less_takes (map sort_of (t ∷ ts)) takes.takes) (λ u v e. rule_reads (at_least 2 (each_of Number) (λ us. each_pair (pair Less) (neighbours us))) at (u ∷ v ∷ []) refl (ap (all_same Number) e) refl)
  head_read AtMost (t ∷ ts) takes some place at = two_of (λ us. applied s [] place (codes "<=") at us ≡ Ok (of AtMost us)) (t ∷ ts) Number Number (at_most_takes (map sort_of (t ∷ ts)) takes.takes) (λ u v e. rule_reads (at_least 2 (each_of Number) (λ us. each_pair (pair AtMost) (neighbours us))) at (u ∷ v ∷ []) refl (ap (all_same Number) e) refl)
  head_read Divide (t ∷ ts) takes some place at = go (t ∷ ts) takes.linear (divide_sorts (map sort_of (t ∷ ts)) takes.takes)
    where
      go : (us : List Term) → quotient_fault us ≡ None → map sort_of us ≡ Number ∷ Number ∷ [] → applied s [] place (codes "/") at us ≡ Ok (of Divide us)
      go us fine is = two_of (λ vs. quotient_fault vs ≡ None → applied s [] place (codes "/") at vs ≡ Ok (of Divide vs)) us Number Number is (λ u v e fine. rule_reads (record (at_least 2 (each_of Number) (λ vs. left no_term (pair Divide) vs)) { fault = quotient_fault }) at (u ∷ v ∷ []) refl (ap (all_same Number) e) fine) fine
  head_read Minus (t ∷ ts) takes some place at = go (minus_sorts (map sort_of (t ∷ ts)) takes.takes)
    where
      go : (map sort_of (t ∷ ts) ≡ Number ∷ []) ⊎ (map sort_of (t ∷ ts) ≡ Number ∷ Number ∷ []) → applied s [] place (codes "-") at (t ∷ ts) ≡ Ok (of Minus (t ∷ ts))
      go (inl is) = one_of (λ us. applied s [] place (codes "-") at us ≡ Ok (of Minus us)) (t ∷ ts) Number is (λ u e. rule_reads (at_least 1 (each_of Number) differences) at (u ∷ []) refl (ap (all_same Number) e) refl)
      go (inr is) = two_of (λ us. applied s [] place (codes "-") at us ≡ Ok (of Minus us)) (t ∷ ts) Number Number is (λ u v e. rule_reads (at_least 1 (each_of Number) differences) at (u ∷ v ∷ []) refl (ap (all_same Number) e) refl)
  head_read Equal (t ∷ []) takes some place at = absurd (false≢true takes.takes)
  head_read Equal (t ∷ u ∷ []) takes some place at = rule_reads (at_least 2 alike (λ us. each_pair (pair Equal) (neighbours us))) at (t ∷ u ∷ []) refl (ap (λ b. b && true) takes.takes) refl
  head_read Equal (t ∷ u ∷ v ∷ vs) takes some place at = absurd (false≢true takes.takes)
  head_read Ite (t ∷ ts) takes some place at =
      let f = ite_fits (map sort_of (t ∷ ts)) takes.takes in
      let count : length (t ∷ ts) ≡ 3 = sym (length-map (t ∷ ts) sort_of) ∙ f.0 in
      rule_reads (exactly 3 choice (λ us. of Ite us)) at (t ∷ ts) (ap (λ n. nat_le 3 n && nat_le n 3) count) f.1 refl
  head_read (Apply f) (t ∷ ts) takes some place at =
      (λ i. applied_as None (own_name g own told f.name (declared f) takes.known i) (knows.grown f.name (declared f) takes.known i) place at (t ∷ ts))
      ∙ with_sorts_reads f.parameters at (t ∷ ts) (of (Apply f) (t ∷ ts)) takes.takes

  -- a first symbol, with bars or without
  front_form : (at : ℕ) (n : Name) (b : Bool) (us : Trees) → head_form at (cond b Simple Quoted) n us ≡ applies at n
  front_form at n true us = refl
  front_form at n false us = refl

  -- a head before arguments that are read as terms, wherever it is
  applied_read : (w : Setting) (h : Head) (ts : List Term) (x : Tree) (xs : Trees) → ts ≢ [] → TakesAll g h ts → (at : ℕ) → ((next : ℕ) → readings w s [] (moved_all next (more x xs)) ≡ Ok (record { made = []; terms = ts })) → reading w s [] (moved at (list 0 (more (symbol_tree (head_name h)) (more x xs)) 0)) ≡ Ok (plain_reading (of h ts))
  unfolding reading
  applied_read w h ts x xs some takes at read =
      let n : Name = head_name h in
      let u : Term = of h ts in
      let next : ℕ = at + 1 + length (printed (symbol_tree n)) + 1 in
      let us : Trees = moved_all next (more x xs) in
      ap (λ (f : Form). by_form w s [] at us f) (front_form (at + 1) n (is_bare n) us)
      ∙ joined (readings w s [] us) _ (record { made = []; terms = ts }) (plain_reading u) (read next)
      (joined (applied (s ++ []) [] (at + 1) n at ts) _ u (plain_reading u) (ap (λ y. applied y [] (at + 1) n at ts) (append-nil s) ∙ head_read h ts takes some (at + 1) at) refl)

  -- a term, and those after it
  one_more_read : (w : Setting) (x : Tree) (xs : Trees) (t : Term) (ts : List Term) (at : ℕ) → reading w s [] (moved at x) ≡ Ok (plain_reading t) → ((next : ℕ) → readings w s [] (moved_all next xs) ≡ Ok (record { made = []; terms = ts })) → readings w s [] (moved_all at (more x xs)) ≡ Ok (record { made = []; terms = t ∷ ts })
  unfolding readings
  one_more_read w x xs t ts at one others =
      let next : ℕ = at + length (printed x) + 1 in
      let us : Trees = moved_all next xs in
      joined (reading w s [] (moved at x)) _ (plain_reading t) (record { made = []; terms = t ∷ ts }) one
      (joined (readings w (s ++ []) [] us) _ (record { made = []; terms = ts }) (record { made = []; terms = t ∷ ts }) (ap (λ y. readings w y [] us) (append-nil s) ∙ others next) refl)

  none_read : (w : Setting) (at : ℕ) → readings w s [] (moved_all at none) ≡ Ok (record { made = []; terms = [] })
  unfolding readings
  none_read w at = refl

  -- no terms are printed so
  nothing_told : (ts : List Term) → AreToldSo g told no_items ts → ts ≡ []
  nothing_told [] e = refl
  nothing_told (t ∷ ts) e = absurd e

  -- printed terms are read as what they were printed for
  mutual
    pub argument_read : (w : Setting) (a : Argument) (t : Term) → IsTold g told a t → (at : ℕ) → reading w s [] (moved at (argument_tree a)) ≡ Ok (plain_reading t)
    argument_read w (truth b) t e at = word_read g own told s knows w (truth b) t e at
    argument_read w (number q) t e at = word_read g own told s knows w (number q) t e at
    argument_read w (symbol n) t e at = word_read g own told s knows w (symbol n) t e at
    argument_read w (defined n) t e at = word_read g own told s knows w (defined n) t e at
    argument_read w (in_place h no_items) t e at = absurd (e.2.some (nothing_told e.0 e.1))
    argument_read w (in_place h (item a others)) t e at =
        applied_read w h e.0 (argument_tree a) (argument_trees others) e.2.some e.2.takes at (within_read w (item a others) e.0 e.1) ∙ ap (λ u. Ok (plain_reading u)) (sym e.2.term)

    within_read : (w : Setting) (items : Arguments) (ts : List Term) → AreToldSo g told items ts → (at : ℕ) → readings w s [] (moved_all at (argument_trees items)) ≡ Ok (record { made = []; terms = ts })
    within_read w no_items [] e at = none_read w at
    within_read w no_items (t ∷ ts) e at = absurd e
    within_read w (item a others) [] e at = absurd e
    within_read w (item a others) (t ∷ ts) e at = one_more_read w (argument_tree a) (argument_trees others) t ts at (argument_read w a t e.0 at) (within_read w others ts e.1)

  -- one after the other
  arguments_read : (w : Setting) (items : List Argument) (ts : List Term) → AreTold g told items ts → (at : ℕ) → readings w s [] (moved_all at (trees_of (map argument_tree items))) ≡ Ok (record { made = []; terms = ts })
  arguments_read w [] [] e at = none_read w at
  arguments_read w [] (t ∷ ts) e at = absurd e
  arguments_read w (a ∷ items) [] e at = absurd e
  arguments_read w (a ∷ items) (t ∷ ts) e at = one_more_read w (argument_tree a) (trees_of (map argument_tree items)) t ts at (argument_read w a t e.0 at) (arguments_read w items ts e.1)

  -- the term of a definition
  pub compound_read : (w : Setting) (d : DefinitionLine) (ts : List Term) → AreTold g told d.arguments ts → ts ≢ [] → TakesAll g d.head ts → (at : ℕ) → reading w s [] (moved at (term_tree d)) ≡ Ok (plain_reading (of d.head ts))
  compound_read w d ts e some takes at = go d.arguments e
    where
      nothing : (vs : List Term) → AreTold g told [] vs → vs ≡ []
      nothing [] e = refl
      nothing (v ∷ vs) e = absurd e

      go : (items : List Argument) → AreTold g told items ts → reading w s [] (moved at (in_list (symbol_tree (head_name d.head) ∷ map argument_tree items))) ≡ Ok (plain_reading (of d.head ts))
      go [] e = absurd (some (nothing ts e))
      go (a ∷ items) e = applied_read w d.head ts (argument_tree a) (trees_of (map argument_tree items)) some takes at (arguments_read w (a ∷ items) ts e)
