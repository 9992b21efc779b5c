-- What lines make known is what their commands make known.
use Rattle.std.proofs.Common.{◌≡◌, inl, inr, ℕ, zero, suc, ◌+◌, Bool, true, false, cond, List, [], ◌∷◌, ◌++◌, length, map, Option, Some, None, Contains, refl, sym, ap, ◌∙◌, subst, length-append, arith}
use Rattle.std.specs.Prelude.{◌⊎◌, ◌≤◌, Ok, codes}
use Rattle.std.specs.Str.{bytes_eq}
use Rattle.std.proofs.lemmas.List.Elements.{Contains-push_cases, Contains-append_left, Contains-append_right}
use Rattle.std.proofs.lemmas.List.{length-map}
use Rattle.spec_text.specs.Bytes.{Name, among as is_among}
use Rattle.spec_text.specs.Printed.{printed}
use Rattle.spec_text.proofs.Printing.{moved, moved_all}
use Rattle.spec_text.proofs.AnswerLaws.{joined}
use Rattle.spec_text.proofs.Members.{first, later, none as no_member, to_image}
use Rattle.spec_sorts.specs.Terms.{Sort, Truth, Number, Declared, True, False, Term, of, constant_term, filled}
use Rattle.spec_sorts.specs.Signatures.{Definition, Known as Found, declared, defined as by_definition, Signature, known_as, sort_as, is_some, symbols_in, definition}
use Rattle.spec_sorts.proofs.Signatures.{sort_same}
use Rattle.spec_sorts.specs.Literals.{Clause}
use Rattle.spec_sorts.specs.Subsets.{AreAmong}
use Rattle.spec_reading.specs.Names.{is_function}
use Rattle.spec_reading.specs.Sorts.{sort_found}
use Rattle.spec_checking.specs.Commands.{Known, NamedClause, are_symbols}
use Rattle.spec_checking.specs.Reading.{clause_of, entry_names, clause_at, premise_of, premises_of}
use Rattle.spec_models.specs.Values.{trees_of, numeral}
use Rattle.spec_models.specs.Meaning.{IsSortIn}
use Rattle.spec_proof_texts.specs.Lines.{Argument, Reference, assumed, stepped, defined_name, assume_name, step_name, reference_name, reference_tree}
use Rattle.spec_proof_texts.specs.Meaning.{Told, nothing_told, with_definition, with_assume, with_step, numbered, truth_term, clause_told, ArePremises}
use Rattle.spec_proof_texts.specs.ReadBack.{AreScriptNames}
use Rattle.spec_proof_texts.proofs.Lookups.{extended, not_extended, numbered_push, numbered_next, function_push, stays, entry, clause_push, told_apart, entry_unfound, head_same, tail_same}
use Rattle.spec_proof_texts.proofs.Known.{number_term, number_terms, numbers_among, IsHeld, IsHeldBelow, held_among, left_among, right_among, held_more}
use Rattle.spec_proof_texts.proofs.ShortNumbers.{short_numbers, short_count, short_there}
use Rattle.spec_proof_texts.proofs.Arguments.{IsDefinedAs, Knows, Holds}

-- the truth values, and the numbers of few bytes
abbrev pub spare : ℕ
spare = 177158

-- A signature and entries are those that lines make known, after which so many long numbers were printed.
pub record IsKnownAfter (g : Signature) (told : Told) (s : Signature) (entries : List NamedClause) (numbers : ℕ) : Type 0 where
  pub knows : Knows g told s
  pub count : length s ≡ length g + length told.terms
  pub sorts : (n : Name) → sort_as s n ≡ sort_as g n
  pub assumes : (n : ℕ) → clause_of entries (assume_name n) ≡ numbered told.assumes n
  pub steps : (n : ℕ) → clause_of entries (step_name n) ≡ numbered told.steps n
  -- terms among which those are that are known or may be in place, and with each known one its subterms
  pub among : List Term
  pub holds : Holds g told among
  pub few : length among ≤ length (symbols_in g) + numbers + length told.terms + length told.placed + spare

-- the symbols of a signature before no arguments
abbrev constants : Signature → List Term
constants g = map constant_term (symbols_in g)

-- the leaves that are known at first
abbrev leaves : Signature → List Term
leaves g = of True [] ∷ of False [] ∷ constants g ++ short_numbers

others_there : (g : Signature) (t : Term) → Contains (constants g ++ short_numbers) t → Contains (leaves g) t
others_there g t c = later (of True []) (of False [] ∷ constants g ++ short_numbers) t (later (of False []) (constants g ++ short_numbers) t c)

-- no term has a name at first
pub nothing_known : (g : Signature) → AreScriptNames g → (placed : List Term) → IsKnownAfter g (nothing_told placed) g [] 0
nothing_known g own placed = record {
  knows = record { grown = λ n k e. e; terms = λ n. go n (known_as g (defined_name n)) (own.none_kept (defined_name n) refl); whole = λ t c. absurd (no_member t c) };
  count = omega arith;
  sorts = λ n. refl;
  assumes = none_numbered;
  steps = none_numbered;
  among = leaves g ++ placed;
  holds = record {
    truths = λ b. left_among (leaves g) placed (truth_term b) (truth_there b);
    constants = λ f c. left_among (leaves g) placed (constant_term f) (others_there g (constant_term f) (Contains-append_left (constants g) short_numbers (constant_term f) (to_image constant_term (symbols_in g) f c)));
    defined_terms = λ t c. absurd (no_member t c);
    placed_terms = right_among (leaves g) placed;
    numbers = λ q d short. left_among (leaves g) placed (number_term q) (others_there g (number_term q) (Contains-append_right (constants g) short_numbers (number_term q) (short_there q d short)));
  };
  few = omega (arith, length-append (leaves g) placed, length-map (symbols_in g) constant_term, length-append (constants g) short_numbers, short_count);
}
  where
    none_numbered : {A : Type 0} (n : ℕ) → None ≡ numbered {A = A} [] n
    none_numbered zero = refl
    none_numbered (suc n) = refl

    go : (n : ℕ) (o : Option Found) → o ≡ None → IsDefinedAs o (numbered [] n)
    go zero o e = subst (λ x. IsDefinedAs x None) (sym e) tt
    go (suc n) o e = subst (λ x. IsDefinedAs x None) (sym e) tt

    truth_there : (b : Bool) → Contains (leaves g) (truth_term b)
    truth_there true = first (of True []) (of False [] ∷ constants g ++ short_numbers)
    truth_there false = later (of True []) (of False [] ∷ constants g ++ short_numbers) (of False []) (first (of False []) (constants g ++ short_numbers))

-- what is found under the next number is what comes next
pub next_is : {A : Type 0} (p : Name) (xs : List A) (c : A) (n m : ℕ) (o : Option A) → n ≡ length xs + 1 → o ≡ numbered xs m → extended o (bytes_eq (p ++ numeral n) (p ++ numeral m)) c ≡ numbered (xs ++ c ∷ []) m
next_is p xs c n m o is e =
    let d = told_apart p n m in
    let b = bytes_eq (p ++ numeral n) (p ++ numeral m) in
    ap (λ x. extended x b c) e ∙ sym (numbered_push xs c m b (λ t. d.0 t ∙ is) (λ t. d.1 (t ∙ sym is)))

-- a definition more stands for its term
as_defined_more : (o : Option Found) (p : Option Term) (b : Bool) (d : Definition) (t : Term) → d.parameters ≡ [] → d.term ≡ t → IsDefinedAs o p → IsDefinedAs (extended o b (by_definition d)) (extended p b t)
as_defined_more None None true d t e f h = (e, f)
as_defined_more None None false d t e f h = tt
as_defined_more None (Some u) b d t e f h = absurd h
as_defined_more (Some (declared x)) (Some u) b d t e f h = absurd h
as_defined_more (Some (declared x)) None b d t e f h = absurd h
as_defined_more (Some (by_definition x)) None b d t e f h = absurd h
as_defined_more (Some (by_definition x)) (Some u) b d t e f h = h

module _ (g : Signature) (told : Told) (s : Signature) (entries : List NamedClause) (numbers : ℕ) (h : IsKnownAfter g told s entries numbers) where
  -- terms that are known with the numbers among arguments
  abbrev pub with_numbers : List Argument → List Term
  with_numbers items = h.among ++ number_terms items

  pub numbers_hold : (items : List Argument) → Holds g told (with_numbers items)
  numbers_hold items = record {
    truths = λ b. left_among h.among (number_terms items) (truth_term b) (h.holds.truths b);
    constants = λ f c. left_among h.among (number_terms items) (constant_term f) (h.holds.constants f c);
    defined_terms = λ t c. held_among h.among (with_numbers items) (left_among h.among (number_terms items)) t (h.holds.defined_terms t c);
    placed_terms = λ t c. left_among h.among (number_terms items) t (h.holds.placed_terms t c);
    numbers = λ q d short. left_among h.among (number_terms items) (number_term q) (h.holds.numbers q d short);
  }

  -- and so are all that are printed with them
  pub numbers_there : (items : List Argument) → AreAmong (number_terms items) (with_numbers items)
  numbers_there items = right_among h.among (number_terms items)

  pub numbers_few : (items : List Argument) → length (with_numbers items) ≤ length (symbols_in g) + (numbers + numbers_among items) + length told.terms + length told.placed + spare
  numbers_few items = omega (arith, h.few, length-append h.among (number_terms items))

  pub assume_known : (n : ℕ) (a : Argument) (c : Clause) → n ≡ length told.assumes + 1 → IsKnownAfter g (with_assume told c) s (entries ++ entry (assume_name n) c ∷ []) (numbers + numbers_among (a ∷ []))
  assume_known n a c is = record {
    knows = record { grown = h.knows.grown; terms = h.knows.terms; whole = h.knows.whole };
    count = h.count;
    sorts = h.sorts;
    assumes = λ m. clause_push entries (assume_name n) (assume_name m) c ∙ next_is (codes "h") told.assumes c n m (clause_of entries (assume_name m)) is (h.assumes m);
    steps = λ m. clause_push entries (assume_name n) (step_name m) c ∙ not_extended (clause_of entries (step_name m)) c ∙ h.steps m;
    among = with_numbers (a ∷ []);
    holds = let k = numbers_hold (a ∷ []) in record { truths = k.truths; constants = k.constants; defined_terms = k.defined_terms; placed_terms = k.placed_terms; numbers = k.numbers };
    few = numbers_few (a ∷ []);
  }

  pub step_known : (n : ℕ) (items : List Argument) (c : Clause) → n ≡ length told.steps + 1 → IsKnownAfter g (with_step told c) s (entries ++ entry (step_name n) c ∷ []) (numbers + numbers_among items)
  step_known n items c is = record {
    knows = record { grown = h.knows.grown; terms = h.knows.terms; whole = h.knows.whole };
    count = h.count;
    sorts = h.sorts;
    assumes = λ m. clause_push entries (step_name n) (assume_name m) c ∙ not_extended (clause_of entries (assume_name m)) c ∙ h.assumes m;
    steps = λ m. clause_push entries (step_name n) (step_name m) c ∙ next_is (codes "t") told.steps c n m (clause_of entries (step_name m)) is (h.steps m);
    among = with_numbers items;
    holds = let k = numbers_hold items in record { truths = k.truths; constants = k.constants; defined_terms = k.defined_terms; placed_terms = k.placed_terms; numbers = k.numbers };
    few = numbers_few items;
  }

  pub definition_known : (n : ℕ) (items : List Argument) (d : Definition) (t : Term) → d.name ≡ defined_name n → d.parameters ≡ [] → d.term ≡ t → n ≡ length told.terms + 1 → filled [] t ≡ t → IsHeldBelow (with_numbers items) t → IsKnownAfter g (with_definition told t) (s ++ definition d ∷ []) entries (numbers + numbers_among items)
  definition_known n items d t named bare for is whole args = record {
    knows = record {
      grown = λ m k e. function_push s (by_definition d) m ∙ stays (known_as s m) (bytes_eq d.name m) (by_definition d) k (h.knows.grown m k e);
      terms = λ m.
          subst (λ o. IsDefinedAs o (numbered (told.terms ++ t ∷ []) m)) (sym (function_push s (by_definition d) (defined_name m)))
          (subst (λ p. IsDefinedAs (extended (known_as s (defined_name m)) (bytes_eq d.name (defined_name m)) (by_definition d)) p) (told_next m)
          (as_defined_more (known_as s (defined_name m)) (numbered told.terms m) (bytes_eq d.name (defined_name m)) d t bare for (h.knows.terms m)));
      whole = λ u c. whole_more u (Contains-push_cases told.terms t u c);
    };
    count = omega (arith, h.count, length-append s (definition d ∷ []), length-append told.terms (t ∷ []));
    sorts = λ m. sort_same s (by_definition d) m ∙ h.sorts m;
    assumes = h.assumes;
    steps = h.steps;
    among = with_numbers items ++ t ∷ [];
    holds = record {
      truths = λ b. left_among (with_numbers items) (t ∷ []) (truth_term b) ((numbers_hold items).truths b);
      constants = λ f c. left_among (with_numbers items) (t ∷ []) (constant_term f) ((numbers_hold items).constants f c);
      defined_terms = λ u c. defined_more u (Contains-push_cases told.terms t u c);
      placed_terms = λ u c. left_among (with_numbers items) (t ∷ []) u ((numbers_hold items).placed_terms u c);
      numbers = λ q d short. left_among (with_numbers items) (t ∷ []) (number_term q) ((numbers_hold items).numbers q d short);
    };
    few = omega (arith, numbers_few items, length-append (with_numbers items) (t ∷ []), length-append told.terms (t ∷ []));
  }
    where
      told_next : (m : ℕ) → extended (numbered told.terms m) (bytes_eq d.name (defined_name m)) t ≡ numbered (told.terms ++ t ∷ []) m
      told_next m = ap (λ (x : Name). extended (numbered told.terms m) (bytes_eq x (defined_name m)) t) named ∙ next_is (codes "@p") told.terms t n m (numbered told.terms m) is refl

      whole_more : (u : Term) → Contains told.terms u ⊎ (t ≡ u) → filled [] u ≡ u
      whole_more u (inl c) = h.knows.whole u c
      whole_more u (inr e) = subst (λ x. filled [] x ≡ x) e whole

      defined_more : (u : Term) → Contains told.terms u ⊎ (t ≡ u) → IsHeld (with_numbers items ++ t ∷ []) u
      defined_more u (inl c) = held_among (with_numbers items) (with_numbers items ++ t ∷ []) (left_among (with_numbers items) (t ∷ [])) u ((numbers_hold items).defined_terms u c)
      defined_more u (inr e) = subst (IsHeld (with_numbers items ++ t ∷ [])) e (held_more (with_numbers items) t args)

  -- the next names are new
  pub new_assume : (n : ℕ) → n ≡ length told.assumes + 1 → is_among (entry_names entries) (assume_name n) ≡ false
  new_assume n is = entry_unfound entries (assume_name n) (h.assumes n ∙ ap (numbered told.assumes) is ∙ numbered_next told.assumes)

  pub new_step : (n : ℕ) → n ≡ length told.steps + 1 → is_among (entry_names entries) (step_name n) ≡ false
  new_step n is = entry_unfound entries (step_name n) (h.steps n ∙ ap (numbered told.steps) is ∙ numbered_next told.steps)

  pub new_definition : (n : ℕ) → n ≡ length told.terms + 1 → is_function s (defined_name n) ≡ false
  new_definition n is = go (known_as s (defined_name n)) (subst (IsDefinedAs (known_as s (defined_name n))) (ap (numbered told.terms) is ∙ numbered_next told.terms) (h.knows.terms n))
    where
      go : (o : Option Found) → IsDefinedAs o None → is_some o ≡ false
      go None e = refl
      go (Some (declared f)) e = absurd e
      go (Some (by_definition d)) e = absurd e

  -- sorts of the script's signature
  pub sort_known : (r : Sort) → IsSortIn g r → IsSortIn s r
  sort_known Truth e = tt
  sort_known Number e = tt
  sort_known (Declared n) e = record { name = e.name; sort = λ at. ap (λ o. cond (bytes_eq n (codes "Bool")) (Ok Truth) (cond (bytes_eq n (codes "Real")) (Ok Number) (sort_found at o))) (h.sorts n) ∙ e.sort at }

  -- premises are found
  reference_found : (p : Reference) (c : Clause) → clause_told told p ≡ Some c → clause_of entries (reference_name p) ≡ Some c
  reference_found (assumed n) c e = h.assumes n ∙ e
  reference_found (stepped n) c e = h.steps n ∙ e

  pub references_read : (k : Known) → k.entries ≡ entries → (ps : List Reference) (cs : List Clause) → ArePremises told ps cs → (at : ℕ) → premises_of k (moved_all at (trees_of (map reference_tree ps))) ≡ Ok cs
  unfolding premises_of
  references_read k is [] [] e at = refl
  references_read k is [] (c ∷ cs) e at = cc
  references_read k is (p ∷ ps) [] e at = cc
  references_read k is (p ∷ ps) (c ∷ cs) e at =
      let found : clause_of k.entries (reference_name p) ≡ Some c = ap (λ es. clause_of es (reference_name p)) is ∙ reference_found p c (head_same e) in
      let next : ℕ = at + length (printed (reference_tree p)) + 1 in
      joined (premise_of k (moved at (reference_tree p))) _ c (c ∷ cs) (ap (clause_at at) found)
      (joined (premises_of k (moved_all next (trees_of (map reference_tree ps)))) _ cs (c ∷ cs) (references_read k is ps cs (tail_same e) next) refl)

pub references_are_symbols : (at : ℕ) (ps : List Reference) → are_symbols (moved_all at (trees_of (map reference_tree ps))) ≡ true
references_are_symbols at [] = refl
references_are_symbols at (p ∷ ps) = references_are_symbols (at + length (printed (reference_tree p)) + 1) ps
