-- A saturated search over equality and functions has no numbers.
use Rattle.std.proofs.Common.{◌≡◌, ◌≢◌, ℕ, true, List, [], ◌∷◌, map, Contains, refl}
use Rattle.std.specs.Prelude.{flat_map}
use Rattle.std.proofs.lemmas.Bool.{false≢true}
use Rattle.std.proofs.lemmas.List.Elements.{Contains-append_left, Contains-append_right}
use Rattle.spec_text.proofs.Members.{first, none, to_image, in_flat}
use Rattle.spec_numbers.specs.Fractions.{Fraction}
use Rattle.spec_sorts.specs.Terms.{Sort, Number, Symbol, Less, AtMost, Minus, Plus, Times, Divide, Literal, Equal, Apply, Head, Term, Terms, app, nil, cons, list_of, sort_of, sorts_of, head_takes}
use Rattle.spec_sorts.specs.Literals.{Literal as HeldLiteral}
use Rattle.spec_sorts.proofs.LeastSubterms.{least_of}
use Rattle.spec_rules.specs.Truths.{Truths, term_true_by}
use Rattle.spec_derivations.specs.Problems.{Problem, terms_of_problem}
use Rattle.spec_derivations.specs.Base.{defining_clauses, spoken_terms, search_terms}
use Rattle.spec_derivations.proofs.SearchTerms.{subterms_spoken, facts_spoken, equalities_spoken, spoken_sorted}
use Rattle.spec_valuations.specs.Tables.{Obeys}
use Rattle.spec_valuations.specs.Classes.{value_by}
use Rattle.spec_valuations.specs.Saturation.{Saturated}
use Rattle.spec_valuations.proofs.Saturating.{IsAtSaturation, is_of_numbers, HasNumbers, listed}

-- what comparisons take are numbers
less_first : (ts : Terms) → head_takes [] Less (sorts_of ts) ≡ true → (t : Term) × Contains (list_of ts) t × (sort_of t ≡ Number)
less_first nil e = absurd (false≢true e)
less_first (cons t ts) e = (t, first t (list_of ts), number (sort_of t) (sorts_of ts) e)
  where
    number : (s : Sort) (ss : List Sort) → head_takes [] Less (s ∷ ss) ≡ true → s ≡ Number
    number Number ss e = refl
    number s ss e = absurd (false≢true e)

at_most_first : (ts : Terms) → head_takes [] AtMost (sorts_of ts) ≡ true → (t : Term) × Contains (list_of ts) t × (sort_of t ≡ Number)
at_most_first nil e = absurd (false≢true e)
at_most_first (cons t ts) e = (t, first t (list_of ts), number (sort_of t) (sorts_of ts) e)
  where
    number : (s : Sort) (ss : List Sort) → head_takes [] AtMost (s ∷ ss) ≡ true → s ≡ Number
    number Number ss e = refl
    number s ss e = absurd (false≢true e)

module _ (symbols : List Symbol) (p : Problem) (terms : List Term) (held : List HeldLiteral) (v : Truths) (class : Term → ℕ) (r : Saturated symbols p terms held v class) where
  pub at_saturation : IsAtSaturation symbols p terms held v class
  at_saturation = record {
    formulas = r.formulas;
    asked = λ t c. r.listed t (subterms_spoken p t ((least_of (terms_of_problem p)).there t c));
    sorted = λ t c. spoken_sorted symbols p r.formulas t (r.only t c);
    closed = λ t c u d. r.listed u ((least_of (spoken_terms p)).closed t (r.only t c) u d);
    facts = λ t c. r.listed t (facts_spoken p t c);
    equalities = λ w u c d. r.listed u (equalities_spoken p w u (r.only w c) d);
    asserted = λ t c. r.met (t ∷ []) (Contains-append_left (map (λ x. x ∷ []) p.asserted) (flat_map defining_clauses (search_terms p)) (t ∷ []) (to_image (λ x. x ∷ []) p.asserted t c));
    defining = λ t c d e. r.met d (Contains-append_right (map (λ x. x ∷ []) p.asserted) (flat_map defining_clauses (search_terms p)) d
        (in_flat defining_clauses (search_terms p) t d (r.only t c) e));
    truths = r.truths;
    fine = r.fine;
    tells = r.classes;
  }

  no_arguments : (h : Head) (ts : Terms) (u : Term) → Contains terms (app h ts) → Contains (list_of ts) u → sort_of u ≢ Number
  no_arguments h ts u c d = r.no_numbers u (at_saturation.closed (app h ts) c u d)

  module _ (point : Term → Fraction) where
    no_obeying : (h : Head) (ts : Terms) → Contains terms (app h ts) → is_of_numbers h ≡ true → Obeys (value_by (term_true_by v) point class) (app h ts)
    unfolding sort_of
    no_obeying Minus ts c k = absurd (r.no_numbers (app Minus ts) c refl)
    no_obeying Plus ts c k = absurd (r.no_numbers (app Plus ts) c refl)
    no_obeying Times ts c k = absurd (r.no_numbers (app Times ts) c refl)
    no_obeying Divide ts c k = absurd (r.no_numbers (app Divide ts) c refl)
    no_obeying (Literal q) ts c k = absurd (r.no_numbers (app (Literal q) ts) c refl)
    no_obeying Less ts c k = let x = less_first ts ((listed symbols p terms held v class at_saturation).takes Less ts c) in absurd (no_arguments Less ts x.0 c x.1 x.2)
    no_obeying AtMost ts c k = let x = at_most_first ts ((listed symbols p terms held v class at_saturation).takes AtMost ts c) in absurd (no_arguments AtMost ts x.0 c x.1 x.2)
    no_obeying h ts c k = absurd (false≢true k)

    pub no_numbers : HasNumbers terms (term_true_by v) point class
    no_numbers = record {
      shared = [];
      shares = record {
        values = λ s ts c some e. absurd (r.no_numbers (app (Apply s) ts) c e);
        arguments = λ s ts u c d e. absurd (no_arguments (Apply s) ts u c d e);
      };
      agree = record { same = λ s t c d. absurd (none s c) };
      reduced = λ t c e. absurd (r.no_numbers t c e);
      numbers = λ s t c e. absurd (no_arguments Equal (cons s (cons t nil)) s c (first s (t ∷ [])) e);
      obeys = no_obeying;
    }
