-- Printed words are read as what they were printed for; what is printed has all its subterms among those that are known.
use Rattle.std.proofs.Common.{◌≡◌, ℕ, zero, suc, Bool, true, false, cond, List, [], ◌∷◌, map, Option, Some, None, Contains, refl, sym, ap, ap₂, ◌∙◌, subst}
use Rattle.std.specs.Prelude.{◌&&◌, not, Ok}
use Rattle.std.proofs.lemmas.Bool.{and_parts, false≢true}
use Rattle.std.proofs.lemmas.List.Elements.{Contains-append_left, Contains-append_right}
use Rattle.std.proofs.lemmas.Option.{same_Some}
use Rattle.spec_text.specs.declared.Kind.TheVariants.{Simple, Quoted}
use Rattle.spec_text.specs.declared.Fault.TheVariants.{NumberWide}
use Rattle.spec_text.specs.Bytes.{Name}
use Rattle.spec_text.specs.Answers.{◌>>=◌, require}
use Rattle.spec_text.specs.Trees.{atom}
use Rattle.spec_text.specs.Printed.{is_bare}
use Rattle.spec_text.proofs.Printing.{kind_of, moved}
use Rattle.spec_text.proofs.Members.{first}
use Rattle.spec_text.proofs.AnswerLaws.{joined}
use Rattle.spec_numbers.specs.Fractions.{Fraction}
use Rattle.spec_sorts.specs.Numerals.{literal_value, is_wide}
use Rattle.spec_sorts.specs.Terms.{Sort, Symbol, Head, True, False, Not, And, Or, Xor, Implies, Equal, Ite, Minus, Plus, Times, Divide, Less, AtMost, Literal, Apply, Parameter, Term, app, cons, of, terms_of, constant_term, sort_of, head_takes, filled, filled_all, same_fraction}
use Rattle.spec_sorts.specs.Theory.{Rule, look_up, theory, is_of_theory}
use Rattle.spec_sorts.specs.Signatures.{Known, declared, defined as by_definition, Signature, known_as, symbols_in}
use Rattle.spec_sorts.specs.Subsets.{AreAmong}
use Rattle.spec_sorts.proofs.SameTerms.{fractions_decide}
use Rattle.spec_reading.specs.Names.{Setting}
use Rattle.spec_reading.specs.Reading.{plain_reading, literal, with_sorts, applied, applied_as, reading}
use Rattle.spec_models.specs.Values.{fraction_tree}
use Rattle.spec_proof_texts.specs.Decimals.{places, literal_text, literal_kind, has_decimal, literal_tree, is_decimal}
use Rattle.spec_proof_texts.specs.Lines.{Argument, Arguments, truth, number, symbol, defined, applied as in_place, no_items, item, defined_name, argument_tree}
use Rattle.spec_proof_texts.specs.Meaning.{Told, numbered, constant_if, bare_term, truth_term, word_told, IsTold, AreToldSo, AreTold}
use Rattle.spec_proof_texts.specs.ReadBack.{AreScriptNames}
use Rattle.spec_proof_texts.proofs.Lookups.{numbered_in, symbol_found}
use Rattle.spec_proof_texts.proofs.Known.{number_term, is_long_number, number_terms_in, number_terms_within, number_terms, IsHeld, AreHeld}

-- a name that no function of a theory has
pub no_rule : (n : Name) → (is_of_theory n ≡ true → ⊥) → look_up theory n ≡ None
no_rule n h = go (look_up theory n) refl
  where
    go : (o : Option Rule) → look_up theory n ≡ o → o ≡ None
    go None e = refl
    go (Some r) e = absurd (h (rw e refl))

-- A function that is a definition without parameters of a term, where there is one.
abbrev pub IsDefinedAs : Option Known → Option Term → Type 0
IsDefinedAs (Some (by_definition d)) (Some t) = (d.parameters ≡ []) × (d.term ≡ t)
IsDefinedAs None None = Unit {0}
IsDefinedAs _ _ = ⊥

-- What a signature knows of terms that have names, after the names of a script.
pub record Knows (g : Signature) (told : Told) (s : Signature) : Type 0 where
  -- what the script's names are
  pub grown : (n : Name) (k : Known) → known_as g n ≡ Some k → known_as s n ≡ Some k
  -- the terms under their numbers
  pub terms : (n : ℕ) → IsDefinedAs (known_as s (defined_name n)) (numbered told.terms n)
  -- none has a parameter
  pub whole : (t : Term) → Contains told.terms t → filled [] t ≡ t

-- Terms among which those are that can be printed, with their subterms.
pub record Holds (g : Signature) (told : Told) (us : List Term) : Type 0 where
  pub truths : (b : Bool) → Contains us (truth_term b)
  pub constants : (f : Symbol) → Contains (symbols_in g) f → Contains us (constant_term f)
  pub defined_terms : (t : Term) → Contains told.terms t → IsHeld us t
  pub placed_terms : (t : Term) → Contains told.placed t → Contains us t
  -- the numbers that are not long
  pub numbers : (q : Fraction) → is_decimal q ≡ true → is_long_number q ≡ false → Contains us (number_term q)

-- a symbol without parameters, by its term
record Constant (g : Signature) (n : Name) (t : Term) : Type 0 where
  symbol_is : Symbol
  found : known_as g n ≡ Some (declared symbol_is)
  none : symbol_is.parameters ≡ []
  term : constant_term symbol_is ≡ t

constant_of : (g : Signature) (n : Name) (t : Term) → bare_term (known_as g n) ≡ Some t → Constant g n t
constant_of g n t e = go (known_as g n) refl e
  where
    by : (f : Symbol) (ss : List Sort) → f.parameters ≡ ss → known_as g n ≡ Some (declared f) → constant_if f ss ≡ Some t → Constant g n t
    by f [] is here e = record { symbol_is = f; found = here; none = is; term = same_Some _ _ e }
    by f (s ∷ ss) is here e = cc

    go : (o : Option Known) → known_as g n ≡ o → bare_term o ≡ Some t → Constant g n t
    go None here e = cc
    go (Some (by_definition d)) here e = cc
    go (Some (declared f)) here e = by f f.parameters refl here e

-- a number is read from its text
module _ (s : Signature) (w : Setting) (at : ℕ) where
  literal_read : (q : Fraction) → same_fraction (literal_value (literal_text q)) q ≡ true → not (is_wide (literal_text q)) ≡ true → literal at (literal_text q) ≡ Ok (number_term q)
  unfolding require ◌>>=◌
  literal_read q same fits =
      ap (λ b. require b at NumberWide >>= λ fits. Ok (number_term (literal_value (literal_text q)))) fits
      ∙ ap (λ x. Ok (number_term x)) ((fractions_decide (literal_value (literal_text q)) q).0 same)

  atom_read : (q : Fraction) (k : ℕ) → literal at (literal_text q) ≡ Ok (number_term q) → reading w s [] (atom at (kind_of (literal_kind k) (literal_text q)) (literal_text q)) ≡ Ok (plain_reading (number_term q))
  unfolding reading
  atom_read q zero e = joined (literal at (literal_text q)) _ (number_term q) (plain_reading (number_term q)) e refl
  atom_read q (suc k) e = joined (literal at (literal_text q)) _ (number_term q) (plain_reading (number_term q)) e refl

  number_read : (q : Fraction) → is_decimal q ≡ true → reading w s [] (moved at (literal_tree q)) ≡ Ok (plain_reading (number_term q))
  unfolding is_decimal
  number_read q e =
      let one = and_parts (has_decimal q) (same_fraction (literal_value (literal_text q)) q && not (is_wide (literal_text q))) e in
      let two = and_parts (same_fraction (literal_value (literal_text q)) q) (not (is_wide (literal_text q))) one.1 in
      ap (λ b. reading w s [] (moved at (cond b (atom 0 (literal_kind (places q)) (literal_text q)) (fraction_tree q)))) one.0
      ∙ atom_read q (places q) (literal_read q two.0 two.1)

-- a head before terms without parameters, which it takes, has none
head_whole : (h : Head) (ts : List Term) → filled_all [] (terms_of ts) ≡ terms_of ts → head_takes [] h (map sort_of ts) ≡ true → filled [] (of h ts) ≡ of h ts
unfolding filled
head_whole True ts e takes = ap (app True) e
head_whole False ts e takes = ap (app False) e
head_whole Not ts e takes = ap (app Not) e
head_whole And ts e takes = ap (app And) e
head_whole Or ts e takes = ap (app Or) e
head_whole Xor ts e takes = ap (app Xor) e
head_whole Implies ts e takes = ap (app Implies) e
head_whole Equal ts e takes = ap (app Equal) e
head_whole Ite ts e takes = ap (app Ite) e
head_whole Minus ts e takes = ap (app Minus) e
head_whole Plus ts e takes = ap (app Plus) e
head_whole Times ts e takes = ap (app Times) e
head_whole Divide ts e takes = ap (app Divide) e
head_whole Less ts e takes = ap (app Less) e
head_whole AtMost ts e takes = ap (app AtMost) e
head_whole (Literal q) ts e takes = ap (app (Literal q)) e
head_whole (Apply f) ts e takes = ap (app (Apply f)) e
head_whole (Parameter k s) [] e takes = absurd (false≢true takes)
head_whole (Parameter k s) (t ∷ ts) e takes = absurd (false≢true takes)

module _ (g : Signature) (own : AreScriptNames g) (told : Told) where
  -- a symbol of the script is none of a theory
  pub own_name : (n : Name) (k : Known) → known_as g n ≡ Some k → look_up theory n ≡ None
  own_name n k e = no_rule n (λ h. none_is_some (sym (own.own n h) ∙ e))
    where
      none_is_some : {A : Type 0} {x : A} → None ≡ Some x → ⊥
      none_is_some e = cc

  module _ (s : Signature) (knows : Knows g told s) (w : Setting) where
    symbol_applied : (n : Name) (t : Term) → bare_term (known_as g n) ≡ Some t → (at : ℕ) → applied s [] at n at [] ≡ Ok t
    unfolding require ◌>>=◌
    symbol_applied n t e at =
        let c = constant_of g n t e in
        let f = c.symbol_is in
        (λ i. applied_as None (own_name n (declared f) c.found i) (knows.grown n (declared f) c.found i) at at [])
        ∙ ap (λ (ss : List Sort). with_sorts ss at [] (constant_term f)) c.none
        ∙ ap Ok c.term

    defined_applied : (n : ℕ) (t : Term) → numbered told.terms n ≡ Some t → (at : ℕ) → applied s [] at (defined_name n) at [] ≡ Ok t
    unfolding require ◌>>=◌
    defined_applied n t e at = go (known_as s (defined_name n)) refl (subst (IsDefinedAs (known_as s (defined_name n))) e (knows.terms n))
      where
        go : (o : Option Known) → known_as s (defined_name n) ≡ o → IsDefinedAs o (Some t) → applied s [] at (defined_name n) at [] ≡ Ok t
        go None here h = absurd h
        go (Some (declared f)) here h = absurd h
        go (Some (by_definition d)) here h =
            ap (λ o. applied_as None None o at at []) here
            ∙ ap (λ (ps : List (Name × Sort)). with_sorts (map (λ (p : Name × Sort). p.1) ps) at [] (filled [] d.term)) h.0
            ∙ ap Ok (ap (filled []) h.1 ∙ knows.whole t (numbered_in told.terms n t e))

    -- a symbol is one between bars too
    barred : (at : ℕ) (n : Name) (t : Term) (b : Bool) → applied s [] at n at [] ≡ Ok t → reading w s [] (atom at (cond b Simple Quoted) n) ≡ Ok (plain_reading t)
    unfolding reading
    barred at n t true e = joined (applied s [] at n at []) _ t (plain_reading t) e refl
    barred at n t false e = joined (applied s [] at n at []) _ t (plain_reading t) e refl

    pub word_read : (a : Argument) (t : Term) → word_told g told a ≡ Some t → (at : ℕ) → reading w s [] (moved at (argument_tree a)) ≡ Ok (plain_reading t)
    unfolding reading require ◌>>=◌
    word_read (truth true) t e at = ap (λ u. Ok (plain_reading u)) (same_Some _ _ e)
    word_read (truth false) t e at = ap (λ u. Ok (plain_reading u)) (same_Some _ _ e)
    word_read (number q) t e at = go (is_decimal q) refl e
      where
        go : (b : Bool) → is_decimal q ≡ b → cond b (Some (number_term q)) None ≡ Some t → reading w s [] (moved at (argument_tree (number q))) ≡ Ok (plain_reading t)
        go true is e = number_read s w at q is ∙ ap (λ u. Ok (plain_reading u)) (same_Some _ _ e)
        go false is e = cc
    word_read (symbol n) t e at = barred at n t (is_bare n) (symbol_applied n t e at)
    word_read (defined n) t e at = joined (applied s [] at (defined_name n) at []) _ t (plain_reading t) (defined_applied n t e at) refl
    word_read (in_place h items) t e at = cc

  -- they and their subterms are among those that can be printed
  module _ (vs : List Term) (holds : Holds g told vs) where
    number_held : (q : Fraction) (t : Term) → word_told g told (number q) ≡ Some t → AreAmong (number_terms_in (number q)) vs → IsHeld vs t
    number_held q t e long = go (is_decimal q) refl e
      where
        by : (b : Bool) → is_decimal q ≡ true → is_long_number q ≡ b → AreAmong (cond b (number_term q ∷ []) []) vs → Contains vs (number_term q)
        by true d is there = there (number_term q) (first (number_term q) [])
        by false d is there = holds.numbers q d is

        go : (b : Bool) → is_decimal q ≡ b → cond b (Some (number_term q)) None ≡ Some t → IsHeld vs t
        go true d e = subst (IsHeld vs) (same_Some _ _ e) (by (is_long_number q) d refl long, tt)
        go false d e = cc

    mutual
      pub argument_held : (a : Argument) (t : Term) → IsTold g told a t → AreAmong (number_terms_in a) vs → IsHeld vs t
      argument_held (truth true) t e long = subst (IsHeld vs) (same_Some _ _ e) (holds.truths true, tt)
      argument_held (truth false) t e long = subst (IsHeld vs) (same_Some _ _ e) (holds.truths false, tt)
      argument_held (number q) t e long = number_held q t e long
      argument_held (symbol n) t e long =
          let c = constant_of g n t e in
          subst (IsHeld vs) c.term (holds.constants c.symbol_is (symbol_found g n c.symbol_is c.found).0, tt)
      argument_held (defined n) t e long = holds.defined_terms t (numbered_in told.terms n t e)
      argument_held (in_place h items) t e long =
          subst (IsHeld vs) (sym e.2.term) (subst (Contains vs) e.2.term (holds.placed_terms t e.2.there), within_held items e.0 e.1 long)

      within_held : (items : Arguments) (ts : List Term) → AreToldSo g told items ts → AreAmong (number_terms_within items) vs → AreHeld vs (terms_of ts)
      within_held no_items [] e long = tt
      within_held no_items (t ∷ ts) e long = absurd e
      within_held (item a others) [] e long = absurd e
      within_held (item a others) (t ∷ ts) e long =
          (argument_held a t e.0 (λ u c. long u (Contains-append_left (number_terms_in a) (number_terms_within others) u c)), within_held others ts e.1 (λ u c. long u (Contains-append_right (number_terms_in a) (number_terms_within others) u c)))

    pub arguments_held : (items : List Argument) (ts : List Term) → AreTold g told items ts → AreAmong (number_terms items) vs → AreHeld vs (terms_of ts)
    arguments_held [] [] e long = tt
    arguments_held [] (t ∷ ts) e long = absurd e
    arguments_held (a ∷ items) [] e long = absurd e
    arguments_held (a ∷ items) (t ∷ ts) e long =
        (argument_held a t e.0 (λ u c. long u (Contains-append_left (number_terms_in a) (number_terms items) u c)), arguments_held items ts e.1 (λ u c. long u (Contains-append_right (number_terms_in a) (number_terms items) u c)))

  -- none has a parameter
  module _ (whole : (t : Term) → Contains told.terms t → filled [] t ≡ t) where
    mutual
      unfolding filled filled_all

      argument_whole : (a : Argument) (t : Term) → IsTold g told a t → filled [] t ≡ t
      argument_whole (truth true) t e = subst (λ u. filled [] u ≡ u) (same_Some _ _ e) refl
      argument_whole (truth false) t e = subst (λ u. filled [] u ≡ u) (same_Some _ _ e) refl
      argument_whole (number q) t e = go (is_decimal q) e
        where
          go : (b : Bool) → cond b (Some (number_term q)) None ≡ Some t → filled [] t ≡ t
          go true e = subst (λ u. filled [] u ≡ u) (same_Some _ _ e) refl
          go false e = cc
      argument_whole (symbol n) t e = subst (λ u. filled [] u ≡ u) (constant_of g n t e).term refl
      argument_whole (defined n) t e = whole t (numbered_in told.terms n t e)
      argument_whole (in_place h items) t e = subst (λ u. filled [] u ≡ u) (sym e.2.term) (head_whole h e.0 (within_whole items e.0 e.1) e.2.takes.takes)

      within_whole : (items : Arguments) (ts : List Term) → AreToldSo g told items ts → filled_all [] (terms_of ts) ≡ terms_of ts
      within_whole no_items [] e = refl
      within_whole no_items (t ∷ ts) e = absurd e
      within_whole (item a others) [] e = absurd e
      within_whole (item a others) (t ∷ ts) e = ap₂ cons (argument_whole a t e.0) (within_whole others ts e.1)

    arguments_whole : (items : List Argument) (ts : List Term) → AreTold g told items ts → filled_all [] (terms_of ts) ≡ terms_of ts
    unfolding filled_all
    arguments_whole [] [] e = refl
    arguments_whole [] (t ∷ ts) e = absurd e
    arguments_whole (a ∷ items) [] e = absurd e
    arguments_whole (a ∷ items) (t ∷ ts) e = ap₂ cons (argument_whole a t e.0) (arguments_whole items ts e.1)

    pub term_whole : (h : Head) (items : List Argument) (ts : List Term) → AreTold g told items ts → head_takes [] h (map sort_of ts) ≡ true → filled [] (of h ts) ≡ of h ts
    term_whole h items ts e takes = head_whole h ts (arguments_whole items ts e) takes
