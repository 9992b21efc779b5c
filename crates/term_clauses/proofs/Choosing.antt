-- Choices between terms of another sort than Bool: their parts, their equalities with these, and their clauses.
use Rattle.std.proofs.Common.{◌≡◌, ◌≢◌, true, if◌then◌else◌, List, [], ◌∷◌, length, get_or, Contains, refl, sym, ap, ◌∙◌, subst, arith}
use Rattle.spec_text.proofs.Members.{first, later}
use Rattle.spec_text.specs.Trees.{none}
use Rattle.spec_sorts.specs.Terms.{Sort, Truth, Symbol, Ite, Equal, Term, app, nil, cons, of, pair, negated, sort_of, same_sort, head_takes}
use Rattle.spec_sorts.specs.WellSorted.{IsWellSorted, IsFormulaOver}
use Rattle.spec_sorts.proofs.WellSorted.{before, same_sort_itself, other_sort, choice_takes}
use Rattle.spec_sorts.specs.Literals.{Clause}
use Rattle.spec_proofs.specs.declared.Rule.TheVariants.{IteThen, IteElse}
use Rattle.spec_rules.specs.Rules.{IsRight}
use Rattle.spec_derivations.specs.Base.{branch_equalities, choice_clauses}
use Rattle.spec_derivations.proofs.Below.{argument_sorted, head_fits}
use Rattle.term_core.specs.declared.ids.TermId.{TermId}
use Rattle.term_core.specs.Tables.{TableView, term_at, IsIn}
use Rattle.term_core.proofs.TermsExtend.{IsIn-kept, term_at-kept}
use Rattle.proof_log.specs.Logs.{IsFormulaIn}
use Rattle.proof_log.specs.Theories.{IsTermIn}
use Rattle.term_clauses.specs.declared.choices.IteParts.{IteParts}
use Rattle.term_clauses.specs.Stating.{Widens}
use Rattle.term_clauses.specs.Choices.{AreComparable, equality_at, IsNoChoice, IsIteTerm}
use Rattle.term_clauses.proofs.Parts.{formula_kept, sorted_kept}

-- a list of three
pub three_of_length : {X : Type 0} (xs : List X) (d : X) → length xs ≡ 3 → xs ≡ get_or xs 0 d ∷ get_or xs 1 d ∷ get_or xs 2 d ∷ []
three_of_length (x ∷ y ∷ z ∷ []) d e = refl
three_of_length _ d e = absurd (omega (arith, e))

-- a term of sort Bool is no choice of another sort
pub no_choice : (t : Term) → sort_of t ≡ Truth → IsNoChoice t
unfolding sort_of
no_choice (app Ite (cons c (cons s (cons t nil)))) e = (
  ap (λ (x : Sort). if same_sort Truth x then [] else pair Equal (app Ite (cons c (cons s (cons t nil)))) s ∷ pair Equal (app Ite (cons c (cons s (cons t nil)))) t ∷ []) e,
  ap (λ (x : Sort). if same_sort Truth x then [] else (negated c ∷ pair Equal (app Ite (cons c (cons s (cons t nil)))) s ∷ []) ∷ (c ∷ pair Equal (app Ite (cons c (cons s (cons t nil)))) t ∷ []) ∷ []) e,
)
no_choice _ e = (refl, refl)

-- a choice has the sort of its two terms
ite_sort : (c s t : Term) → sort_of (of Ite (c ∷ s ∷ t ∷ [])) ≡ sort_of s
unfolding sort_of
ite_sort c s t = refl

-- a term that is made so of the table's terms
pub choice_made : (t : TableView) (id : TermId) (x : IteParts) → IsTermIn t id → IsIn t x.condition → IsIn t x.first → IsIn t x.second
    → term_at t id ≡ of Ite (term_at t x.condition ∷ term_at t x.first ∷ term_at t x.second ∷ []) → sort_of (term_at t id) ≢ Truth → IsIteTerm t id x
choice_made t id x whole condition_in first_in second_in means apart =
    let c = term_at t x.condition in
    let s = term_at t x.first in
    let u = term_at t x.second in
    let choice = of Ite (c ∷ s ∷ u ∷ []) in
    let sorted : IsWellSorted t.symbols [] choice = subst (IsWellSorted t.symbols []) means whole.1 in
    let part : (w : Term) → Contains (c ∷ s ∷ u ∷ []) w → IsWellSorted t.symbols [] w = argument_sorted t.symbols [] choice sorted in
    let takes = choice_takes (sort_of c) (sort_of s) (sort_of u) (head_fits t.symbols [] Ite (cons c (cons s (cons u nil))) sorted) in
    let own : sort_of (term_at t id) ≡ sort_of s = ap sort_of means ∙ ite_sort c s u in
    record {
      condition = (condition_in, record { term = part c (first c (s ∷ u ∷ [])); sort = takes.0 });
      first = record { one = whole; other = (first_in, part s (later c (s ∷ u ∷ []) s (first s (u ∷ [])))); sort = own };
      second = record { one = whole; other = (second_in, part u (later c (s ∷ u ∷ []) u (later s (u ∷ []) u (first u [])))); sort = own ∙ takes.1 };
      means = means;
      apart = apart;
    }

module _ (t : TableView) (id : TermId) (x : IteParts) (is : IsIteTerm t id x) where
  -- its terms have another sort
  apart_first : sort_of (term_at t x.first) ≢ Truth
  apart_first e = is.apart (is.first.sort ∙ e)

  apart_second : sort_of (term_at t x.second) ≢ Truth
  apart_second e = is.apart (is.second.sort ∙ e)

  -- its equalities with them
  pub equalities_are : branch_equalities (term_at t id) ≡ equality_at t id x.first ∷ equality_at t id x.second ∷ []
  equalities_are =
      let made : List Term = equality_at t id x.first ∷ equality_at t id x.second ∷ [] in
      let choice = of Ite (term_at t x.condition ∷ term_at t x.first ∷ term_at t x.second ∷ []) in
      let put : Term → List Term = λ w. pair Equal w (term_at t x.first) ∷ pair Equal w (term_at t x.second) ∷ [] in
      ap branch_equalities is.means ∙ ap (λ b. if b then [] else put choice) (other_sort (sort_of (term_at t x.first)) apart_first) ∙ ap put (sym is.means)

  -- and its clauses
  pub clauses_are : choice_clauses (term_at t id) ≡ (negated (term_at t x.condition) ∷ equality_at t id x.first ∷ []) ∷ (term_at t x.condition ∷ equality_at t id x.second ∷ []) ∷ []
  clauses_are =
      let c = term_at t x.condition in
      let choice = of Ite (c ∷ term_at t x.first ∷ term_at t x.second ∷ []) in
      let put : Term → List Clause = λ w. (negated c ∷ pair Equal w (term_at t x.first) ∷ []) ∷ (c ∷ pair Equal w (term_at t x.second) ∷ []) ∷ [] in
      ap choice_clauses is.means ∙ ap (λ b. if b then [] else put choice) (other_sort (sort_of (term_at t x.first)) apart_first) ∙ ap put (sym is.means)

  -- which are right
  pub then_right : IsRight IteThen [] none (negated (term_at t x.condition) ∷ equality_at t id x.first ∷ [])
  then_right = (term_at t x.condition, term_at t x.first, term_at t x.second, refl, ap (λ w. pair Equal w (term_at t x.first)) is.means, apart_first)

  pub else_right : IsRight IteElse [] none (term_at t x.condition ∷ equality_at t id x.second ∷ [])
  else_right = (term_at t x.first, term_at t x.second, ap (λ w. pair Equal w (term_at t x.second)) is.means, apart_second)

-- the equality of two terms of one sort is a formula
pub equality_formula : (symbols : List Symbol) (t u : Term) → IsWellSorted symbols [] t → IsWellSorted symbols [] u → sort_of t ≡ sort_of u → IsFormulaOver symbols (pair Equal t u)
unfolding sort_of
equality_formula symbols t u t_sorted u_sorted same =
    let takes : head_takes [] Equal (sort_of t ∷ sort_of u ∷ []) ≡ true = ap (λ (s : Sort). same_sort (sort_of t) s) (sym same) ∙ same_sort_itself (sort_of t) in
    record { term = before symbols [] Equal (t ∷ u ∷ []) takes tt (t_sorted, (u_sorted, tt)); sort = refl }

module _ (t u : TableView) (wider : Widens t u) where
  -- a term is one in a wider table
  pub term_kept : (id : TermId) → IsTermIn t id → IsTermIn u id
  term_kept id h = (IsIn-kept t u wider.terms id h.0, sorted_kept t u wider id h.0 h.1)

  -- terms of one sort have it there
  pub comparable_kept : (a b : TermId) → AreComparable t a b → AreComparable u a b
  comparable_kept a b h = record {
    one = term_kept a h.one;
    other = term_kept b h.other;
    sort = ap sort_of (term_at-kept t u wider.terms a h.one.0) ∙ h.sort ∙ sym (ap sort_of (term_at-kept t u wider.terms b h.other.0));
  }

  -- and the same equality
  pub equality_kept : (a b : TermId) → AreComparable t a b → equality_at u a b ≡ equality_at t a b
  equality_kept a b h = λ i. pair Equal (term_at-kept t u wider.terms a h.one.0 i) (term_at-kept t u wider.terms b h.other.0 i)

  -- which is a formula where it is put
  pub equality_in : (a b id : TermId) → AreComparable t a b → IsIn u id → term_at u id ≡ equality_at t a b → IsFormulaIn u id
  equality_in a b id h there is =
      let k = comparable_kept a b h in
      (there, subst (IsFormulaOver u.symbols) (sym (is ∙ sym (equality_kept a b h))) (equality_formula u.symbols (term_at u a) (term_at u b) k.one.1 k.other.1 k.sort))

  -- a choice is one with the same parts
  pub choice_kept : (id : TermId) (x : IteParts) → IsIteTerm t id x → IsIteTerm u id x
  choice_kept id x h =
      let own = term_at-kept t u wider.terms id h.first.one.0 in
      let one = term_at-kept t u wider.terms x.condition h.condition.0 in
      let two = term_at-kept t u wider.terms x.first h.first.other.0 in
      let three = term_at-kept t u wider.terms x.second h.second.other.0 in
      record {
        condition = formula_kept t u wider x.condition h.condition;
        first = comparable_kept id x.first h.first;
        second = comparable_kept id x.second h.second;
        means = own ∙ h.means ∙ (λ i. of Ite (sym one i ∷ sym two i ∷ sym three i ∷ []));
        apart = λ e. h.apart (sym (ap sort_of own) ∙ e);
      }
