-- Where a search is saturated, the interpretation that its truths, classes and numbers give is a model.
use Rattle.std.proofs.Common.{◌≡◌, ◌≢◌, ◌↔◌, ℕ, Bool, true, false, not, ◌||◌, cond, List, [], ◌∷◌, get_or, inl, inr, All, Contains, refl, sym, ap, ◌∙◌, subst, arith}
use Rattle.std.specs.Cmp.Derive.{both_true}
use Rattle.std.specs.List.{list_any}
use Rattle.std.proofs.lemmas.List.Elements.{All-contains, Contains-append_left, Contains-append_right, Contains-append_cases, Contains-get_or}
use Rattle.spec_text.proofs.Members.{first, later}
use Rattle.spec_numbers.specs.Fractions.{Fraction, IsReduced}
use Rattle.spec_sorts.specs.Terms.{Truth, Number, Symbol, same_sort, Less, AtMost, Minus, Plus, Times, Divide, Literal, Parameter, Equal, Ite, Apply, True, False, Head, Term, Terms, app, nil, cons, list_of, sort_of, sorts_of, all_same, head_takes, negated, pair}
use Rattle.spec_sorts.specs.Values.{truth, is_true, same_value, Interpretation, Interprets}
use Rattle.spec_sorts.specs.TermValues.{value_at}
use Rattle.spec_sorts.specs.Literals.{Clause, Literal as HeldLiteral, literal_of}
use Rattle.spec_sorts.specs.Theory.{keeps_constant}
use Rattle.spec_sorts.specs.WellSorted.{IsWellSorted, IsFormulaOver}
use Rattle.spec_sorts.specs.Subsets.{AreAmong, IsClosed}
use Rattle.spec_sorts.proofs.General.{sorts_listed}
use Rattle.spec_sorts.proofs.WellSorted.{other_sort}
use Rattle.spec_equality.specs.Congruence.{truth_term, signed_literal, IsCongruent, IsFine}
use Rattle.spec_equality.proofs.Values.{value_itself}
use Rattle.spec_rules.specs.Truths.{Truths, literal_true, term_true_by}
use Rattle.spec_derivations.specs.Problems.{Problem, terms_of_problem, known_terms}
use Rattle.spec_derivations.specs.Base.{clauses_of, choice_clauses, defining_clauses, branch_equalities, truth_facts}
use Rattle.spec_derivations.proofs.Below.{head_fits, head_over}
use Rattle.spec_derivations.proofs.Formulas.{is_core}
use Rattle.spec_derivations.proofs.Meeting.{negated_true}
use Rattle.spec_derivations.proofs.Obeying.{IsMet, obeyed}
use Rattle.spec_valuations.specs.Tables.{IsModelBy, Obeys, AreListed}
use Rattle.spec_valuations.specs.Classes.{value_in, value_by, AreClasses, AreShared, Agrees, TellsNumbers, IsOfTruths, AreJoint, AreDefined}
use Rattle.spec_valuations.proofs.Meeting.{value_is, no_parameter}
use Rattle.spec_valuations.proofs.Interpreting.{interprets}
use Rattle.spec_valuations.proofs.Joint.{is_valuation}
use Rattle.spec_valuations.proofs.Choices.{chooses}
use Rattle.spec_valuations.proofs.Closures.{AreHeld, told_by_classes, are_classes}
use Rattle.spec_valuations.proofs.Formulas.{core_joins, is_connective, truths_taken, formula_obeys}
use Rattle.spec_valuations.proofs.Speaking.{choice, truth_fact, choice_sorts}

-- an interpretation of which nothing is asked
pub some_interpretation : Interpretation
some_interpretation = record { table = λ n. record { rows = []; default = truth false } }

-- arguments of sort Bool
pub all_truths : (ts : Terms) → ((u : Term) → Contains (list_of ts) u → sort_of u ≡ Truth) → all_same Truth (sorts_of ts) ≡ true
all_truths nil f = refl
all_truths (cons t ts) f = both_true (ap (same_sort Truth) (f t (first t (list_of ts)))) (all_truths ts (λ u c. f u (later t (list_of ts) u c)))

-- a term whose clause is met is true
pub alone : (v : Truths) (t : Term) → list_any (term_true_by v) (t ∷ []) ≡ true → term_true_by v t ≡ true
alone v t e = go (term_true_by v t) e
  where
    go : (b : Bool) → b || false ≡ true → b ≡ true
    go true e = refl
    go false e = e

-- What a search has of its truths and classes where it is saturated, whatever theories it has.
pub record IsAtSaturation (symbols : List Symbol) (p : Problem) (terms : List Term) (held : List HeldLiteral) (v : Truths) (class : Term → ℕ) : Type 0 where
  -- the terms of the check and the interface equalities are formulas over the symbols, and its own are listed
  pub formulas : All (IsFormulaOver symbols) (known_terms p)
  pub asked : AreAmong (terms_of_problem p) terms
  -- listed terms are well sorted, with each its arguments are listed
  pub sorted : (t : Term) → Contains terms t → IsWellSorted symbols [] t
  pub closed : IsClosed terms
  -- the facts about truth values are listed, and the equalities of choices
  pub facts : AreAmong truth_facts terms
  pub equalities : (w u : Term) → Contains terms w → Contains (branch_equalities w) u → Contains terms u
  -- the clauses of the asserted terms are met, and those that say what listed terms mean
  pub asserted : (t : Term) → Contains p.asserted t → list_any (term_true_by v) (t ∷ []) ≡ true
  pub defining : (t : Term) → Contains terms t → (c : Clause) → Contains (defining_clauses t) c → list_any (term_true_by v) c ≡ true
  -- truths and classes are those of what is held
  pub truths : (t : Term) → Contains terms t → sort_of t ≡ Truth → literal_of t ≡ signed_literal t true → Contains held (signed_literal t (v t))
  pub fine : IsFine terms held
  pub tells : (t u : Term) → Contains terms t → Contains terms u → (class t ≡ class u) ↔ IsCongruent terms held t u

-- a head of arithmetic, or a comparison
abbrev pub is_of_numbers : Head → Bool
is_of_numbers Less = true
is_of_numbers AtMost = true
is_of_numbers h = keeps_constant h

-- What it has of its numbers: on shared terms they agree with the classes.
pub record HasNumbers (terms : List Term) (truths : Term → Bool) (point : Term → Fraction) (class : Term → ℕ) : Type 0 where
  -- the terms that are numbers and have classes
  pub shared : List Term
  pub shares : AreShared terms shared
  -- on these the numbers go with the classes
  pub agree : Agrees point class shared
  -- each number is in lowest terms
  pub reduced : (t : Term) → Contains terms t → sort_of t ≡ Number → IsReduced (point t)
  -- the numbers go with the truths
  pub numbers : TellsNumbers truths point terms
  -- heads of arithmetic and comparisons mean what they mean
  pub obeys : (h : Head) (ts : Terms) → Contains terms (app h ts) → is_of_numbers h ≡ true → Obeys (value_by truths point class) (app h ts)

module _ (symbols : List Symbol) (p : Problem) (terms : List Term) (held : List HeldLiteral) (v : Truths) (class : Term → ℕ) (r : IsAtSaturation symbols p terms held v class) where
  abbrev is_so : Term → Bool
  is_so t = term_true_by v t

  pub listed : AreListed symbols terms
  listed = record {
    arguments = λ h ts c u u_in. r.closed (app h ts) c u u_in;
    takes = λ h ts c. ap (head_takes [] h) (sorts_listed ts) ∙ head_fits symbols [] h ts (r.sorted (app h ts) c);
    declared = λ s ts c. head_over symbols [] (Apply s) ts (r.sorted (app (Apply s) ts) c);
  }

  pub is_met : (t : Term) → Contains terms t → IsMet v t
  is_met t t_in c c_in = r.defining t t_in c (Contains-append_left (clauses_of t) (choice_clauses t) c c_in)

  -- both facts are listed, with their subterms
  fact_listed : (b : Bool) → Contains terms (truth_fact b)
  fact_listed true = r.facts (truth_fact true) (first (truth_fact true) (truth_fact false ∷ []))
  fact_listed false = r.facts (truth_fact false) (later (truth_fact true) (truth_fact false ∷ []) (truth_fact false) (first (truth_fact false) []))

  other_listed : (b : Bool) → Contains terms (negated (truth_term b))
  other_listed b = r.closed (truth_fact b) (fact_listed b) (negated (truth_term b)) (first (negated (truth_term b)) (truth_term (not b) ∷ []))

  value_listed : (b : Bool) → Contains terms (truth_term b)
  value_listed b = r.closed (negated (truth_term b)) (other_listed b) (truth_term b) (first (truth_term b) [])

  -- the truth values are as they should be, and so are their negations
  value_true : (b : Bool) → is_so (truth_term b) ≡ b
  value_true true = ap is_true (obeyed v (truth_term true) (core_joins True nil refl refl refl) (is_met (truth_term true) (value_listed true)) some_interpretation)
  value_true false = ap is_true (obeyed v (truth_term false) (core_joins False nil refl refl refl) (is_met (truth_term false) (value_listed false)) some_interpretation)

  fact_takes : (b : Bool) → (head_takes [] Equal (sort_of (negated (truth_term b)) ∷ sort_of (truth_term (not b)) ∷ []) ≡ true) × (all_same Truth (sort_of (negated (truth_term b)) ∷ sort_of (truth_term (not b)) ∷ []) ≡ true)
  unfolding sort_of
  fact_takes true = (refl, refl)
  fact_takes false = (refl, refl)

  fact_true : (b : Bool) → is_so (truth_fact b) ≡ true
  fact_true b =
      let takes = fact_takes b in
      let other : is_so (negated (truth_term b)) ≡ not b = negated_true v (truth_term b) ∙ ap not (value_true b) in
      ap is_true (obeyed v (truth_fact b) (core_joins Equal (cons (negated (truth_term b)) (cons (truth_term (not b)) nil)) refl takes.0 takes.1)
      (is_met (truth_fact b) (fact_listed b)) some_interpretation)
      ∙ (λ i. same_value (truth (other i)) (truth (value_true (not b) i))) ∙ value_itself (truth (not b))

  -- what is held of listed terms
  pub atoms : (t : Term) → Contains terms t → sort_of t ≡ Truth → literal_of t ≡ signed_literal t true → Contains held (signed_literal t (is_so t))
  atoms t c e plain = subst (λ (b : Bool). Contains held (signed_literal t b)) (sym (ap (literal_true v) plain)) (r.truths t c e plain)

  are_held : AreHeld terms held is_so
  unfolding sort_of literal_of
  are_held = record {
    atoms = atoms;
    negations = negated_true v;
    values = value_listed;
    others = other_listed;
    facts = λ b. subst (λ (x : Bool). Contains held (signed_literal (truth_fact b) x)) (fact_true b) (atoms (truth_fact b) (fact_listed b) refl refl);
  }

  classes : AreClasses is_so class terms
  classes = are_classes symbols terms held is_so class listed are_held r.fine r.tells

  -- a listed equality of terms of another sort than Bool is true exactly where its sides are of one class
  pub equality_classes : (s t : Term) → Contains terms (pair Equal s t) → sort_of s ≢ Truth → (is_so (pair Equal s t) ≡ true) ↔ (class s ≡ class t)
  equality_classes = told_by_classes symbols terms held is_so class listed are_held r.fine r.tells

  -- what the clauses of a listed choice say
  module _ (c a b : Term) (c_in : Contains terms (choice c a b)) (other : sort_of a ≢ Truth) where
    abbrev to_first : Term
    to_first = pair Equal (choice c a b) a

    abbrev to_second : Term
    to_second = pair Equal (choice c a b) b

    -- what is in a list that is there for other sorts than Bool
    chosen_in : {A : Type 0} (xs : List A) (x : A) → Contains xs x → Contains (cond (same_sort Truth (sort_of a)) [] xs) x
    chosen_in xs x x_in = subst (λ y. Contains (cond y [] xs) x) (sym (other_sort (sort_of a) other)) x_in

    equality_listed : (u : Term) → Contains (to_first ∷ to_second ∷ []) u → Contains terms u
    equality_listed u u_in = r.equalities (choice c a b) u c_in (chosen_in (to_first ∷ to_second ∷ []) u u_in)

    clause_met : (x : Clause) → Contains ((negated c ∷ to_first ∷ []) ∷ (c ∷ to_second ∷ []) ∷ []) x → list_any is_so x ≡ true
    clause_met x x_in = r.defining (choice c a b) c_in x (Contains-append_right (clauses_of (choice c a b)) (choice_clauses (choice c a b)) x
        (chosen_in ((negated c ∷ to_first ∷ []) ∷ (c ∷ to_second ∷ []) ∷ []) x x_in))

    first_so : is_so c ≡ true → is_so to_first ≡ true
    first_so e = go (is_so c) (is_so to_first) (ap (λ x. x || (is_so to_first || false)) (sym (negated_true v c)) ∙ clause_met (negated c ∷ to_first ∷ []) (0, omega arith, refl)) e
      where
        go : (x y : Bool) → not x || (y || false) ≡ true → x ≡ true → y ≡ true
        go x y f e = grind (arith, f, e)

    second_so : is_so c ≡ false → is_so to_second ≡ true
    second_so e = go (is_so c) (is_so to_second) (clause_met (c ∷ to_second ∷ []) (1, omega arith, refl)) e
      where
        go : (x y : Bool) → x || (y || false) ≡ true → x ≡ false → y ≡ true
        go x y f e = grind (arith, f, e)

  defined : AreDefined is_so terms
  defined = record {
    branches = λ c a b c_in other. (choice_sorts symbols c a b (r.sorted (choice c a b) c_in)).1;
    first = λ c a b c_in other. (equality_listed c a b c_in other (pair Equal (choice c a b) a) (0, omega arith, refl), first_so c a b c_in other);
    second = λ c a b c_in other. (equality_listed c a b c_in other (pair Equal (choice c a b) b) (1, omega arith, refl), second_so c a b c_in other);
  }

  module _ (point : Term → Fraction) (n : HasNumbers terms is_so point class) where
    -- a listed term with a connective as head, or with truth values alone, obeys
    connected : (h : Head) (ts : Terms) → Contains terms (app h ts) → is_connective h ≡ true → is_core h ≡ true → Obeys (value_by is_so point class) (app h ts)
    connected h ts c k core = let takes = listed.takes h ts c in formula_obeys v point class (app h ts) (core_joins h ts core takes (truths_taken h (sorts_of ts) takes k)) (is_met (app h ts) c)

    of_truths : (h : Head) (ts : Terms) → Contains terms (app h ts) → is_core h ≡ true → ((u : Term) → Contains (list_of ts) u → sort_of u ≡ Truth) → Obeys (value_by is_so point class) (app h ts)
    of_truths h ts c core each = formula_obeys v point class (app h ts) (core_joins h ts core (listed.takes h ts c) (all_truths ts each)) (is_met (app h ts) c)

    formulas : (t : Term) → Contains terms t → IsOfTruths t → Obeys (value_by is_so point class) t
    unfolding sort_of
    formulas (app (Apply s) ts) c o = tt
    formulas (app Equal ts) c o = of_truths Equal ts c refl o
    formulas (app Ite ts) c o = of_truths Ite ts c refl o
    formulas (app Minus ts) c o = n.obeys Minus ts c refl
    formulas (app Plus ts) c o = n.obeys Plus ts c refl
    formulas (app Times ts) c o = n.obeys Times ts c refl
    formulas (app Divide ts) c o = n.obeys Divide ts c refl
    formulas (app (Literal q) ts) c o = n.obeys (Literal q) ts c refl
    formulas (app (Parameter k s) ts) c o = absurd (no_parameter k s (sorts_of ts) (listed.takes (Parameter k s) ts c))
    formulas (app Less ts) c o = n.obeys Less ts c refl
    formulas (app AtMost ts) c o = n.obeys AtMost ts c refl
    formulas (app h ts) c o = connected h ts c refl refl

    joint : AreJoint is_so point class terms n.shared
    joint = record {
      classes = classes;
      shares = n.shares;
      agree = n.agree;
      reduced = n.reduced;
      numbers = n.numbers;
      choices = chooses is_so point class terms classes n.numbers defined;
      formulas = formulas;
    }

    module _ (i : Interpretation) (model : IsModelBy i (value_by is_so point class) symbols terms) where
      pub interpreted : Interprets i symbols
      interpreted = interprets i (value_by is_so point class) symbols terms listed (is_valuation is_so point class symbols terms n.shared listed joint) model

      pub valued : (t : Term) → Contains terms t → value_at i [] t ≡ value_by is_so point class t
      valued = value_is i (value_by is_so point class) symbols terms listed (is_valuation is_so point class symbols terms n.shared listed joint) model

      -- a term of the check that is true has the value true
      true_valued : (t : Term) → Contains (terms_of_problem p) t → is_so t ≡ true → value_at i [] t ≡ truth true
      true_valued t t_in e =
          let formula = All-contains (IsFormulaOver symbols) (known_terms p) t r.formulas (Contains-append_right p.interface (terms_of_problem p) t t_in) in
          valued t (r.asked t t_in) ∙ ap (λ s. value_in s (is_so t) (point t) (class t)) formula.sort ∙ ap truth e

      pub asserted_valued : All (λ t. value_at i [] t ≡ truth true) p.asserted
      asserted_valued k d lt =
          let t = get_or p.asserted k d in
          let t_in = Contains-get_or p.asserted k d lt in
          true_valued t (Contains-append_left p.asserted p.assumed t t_in) (alone v t (r.asserted t t_in))

      pub all_valued : All (λ t. term_true_by v t ≡ true) p.assumed → All (λ t. value_at i [] t ≡ truth true) (terms_of_problem p)
      all_valued assumed k d lt = go (get_or (terms_of_problem p) k d) (Contains-get_or (terms_of_problem p) k d lt)
        where
          go : (t : Term) → Contains (terms_of_problem p) t → value_at i [] t ≡ truth true
          go t t_in = true_valued t t_in (elim (Contains-append_cases p.asserted p.assumed t t_in) [
            | inl own ↦ alone v t (r.asserted t own)
            | inr other ↦ All-contains (λ x. term_true_by v x ≡ true) p.assumed t assumed other
          ])
