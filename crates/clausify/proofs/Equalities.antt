-- Equalities of numbers, by their sides, and the orders of these.
use Rattle.std.proofs.Common.{◌≡◌, if◌then◌else◌, List, [], ◌∷◌, length, map, get_or, Contains, refl, sym, ap, ◌∙◌, subst, arith}
use Rattle.std.proofs.lemmas.List.{length-map}
use Rattle.std.proofs.lemmas.List.Elements.{All-nil, All-cons}
use Rattle.spec_text.proofs.Members.{first, later}
use Rattle.spec_text.specs.Trees.{none}
use Rattle.spec_text.proofs.General.{two_of_length}
use Rattle.spec_numbers.specs.Fractions.{Fraction, one_fraction, opposite}
use Rattle.spec_sorts.specs.Terms.{Sort, Number, Symbol, Or, Equal, AtMost, Term, nil, cons, of, pair, negated, sort_of, same_sort, head_takes}
use Rattle.spec_sorts.specs.WellSorted.{IsWellSorted, IsFormulaOver}
use Rattle.spec_sorts.specs.Literals.{Clause}
use Rattle.spec_sorts.proofs.WellSorted.{before, same_sort_is}
use Rattle.spec_sorts.proofs.General.{equal_takes}
use Rattle.spec_proofs.specs.declared.Rule.TheVariants.{LaDisequality}
use Rattle.spec_rules.specs.Rules.{IsRight}
use Rattle.spec_arithmetic.specs.Contradictions.{given, la_generic}
use Rattle.spec_simplex.specs.Weights.{IsTakenOrWide}
use Rattle.spec_derivations.specs.Orders.{order_fact, order_facts, order_clauses}
use Rattle.spec_derivations.proofs.Below.{argument_sorted, head_fits}
use Rattle.ratio128.specs.declared.ratio.Ratio.{Ratio}
use Rattle.ratio128.specs.Meant.{fraction}
use Rattle.term_core.specs.declared.ids.TermId.{TermId}
use Rattle.term_core.specs.declared.nodes.Head.TheVariants as heads
use Rattle.term_core.specs.declared.nodes.Node.{Node}
use Rattle.term_core.specs.Tables.{TableView, term_at, IsIn, AreIn, clause_at, head_meant, takes, HasHead, IsPlaced, Shape, ShapeFits, shape_term}
use Rattle.term_core.proofs.TermsExtend.{term_at-kept}
use Rattle.proof_log.specs.Logs.{IsFormulaIn}
use Rattle.proof_log.specs.Theories.{IsTermIn}
use Rattle.term_clauses.specs.Stating.{Widens, NamesTerm}
use Rattle.term_clauses.proofs.Arguments.{no_number}
use Rattle.term_clauses.proofs.Parts.{formula_negated, symbols_same}
use Rattle.term_clauses.proofs.Choosing.{term_kept}
use Rattle.clausify.specs.declared.sides.Sides.{Sides}
use Rattle.clausify.specs.Orders.{IsNumberIn, order_at, AreSidesOf, order_clause, arguments_by}
use Rattle.clausify.proofs.Taken.{forth_taken, back_taken}

equal_fits : (t : TableView) (s : Shape) → ShapeFits t s → s.head ≡ heads.Equal → length s.arguments ≡ 2
equal_fits t s f e =
    sym (length-map s.arguments (term_at t)) ∙ sym (length-map (clause_at t s.arguments) sort_of)
    ∙ equal_takes (map sort_of (clause_at t s.arguments)) (ap (λ h. takes (head_meant t h) (map sort_of (clause_at t s.arguments))) (sym e) ∙ f.sorts)

-- the sides of an equality that is made of terms of the table
sides_are : (t : TableView) (id : TermId) (x : Sides) → IsTermIn t id → IsIn t x.left → IsIn t x.right → term_at t id ≡ pair Equal (term_at t x.left) (term_at t x.right)
    → sort_of (term_at t x.left) ≡ Number → AreSidesOf t (term_at t id) x
sides_are t id x whole left_in right_in means number =
    let a = term_at t x.left in
    let b = term_at t x.right in
    let sorted : IsWellSorted t.symbols [] (pair Equal a b) = subst (IsWellSorted t.symbols []) means whole.1 in
    let part : (w : Term) → Contains (a ∷ b ∷ []) w → IsWellSorted t.symbols [] w = argument_sorted t.symbols [] (pair Equal a b) sorted in
    let same : sort_of a ≡ sort_of b = same_sort_is (sort_of a) (sort_of b) (head_fits t.symbols [] Equal (cons a (cons b nil)) sorted) in
    record {
      left = ((left_in, part a (first a (b ∷ []))), number);
      right = ((right_in, part b (later a (b ∷ []) b (first b []))), sym same ∙ number);
      means = means;
    }

-- of a node whose head is `=`
pub sides_found : (t : TableView) (id : TermId) (s : Shape) (ids : List TermId) → IsTermIn t id → term_at t id ≡ shape_term t s → ShapeFits t s → s.head ≡ heads.Equal → ids ≡ s.arguments
    → sort_of (term_at t (get_or ids 0 no_number)) ≡ Number → AreSidesOf t (term_at t id) (record { left = get_or ids 0 no_number; right = get_or ids 1 no_number })
sides_found t id s ids whole means fits head same number =
    let count : length ids ≡ 2 = ap length same ∙ equal_fits t s fits head in
    let there : AreIn t ids = subst (AreIn t) (sym same) fits.arguments in
    sides_are t id (record { left = get_or ids 0 no_number; right = get_or ids 1 no_number }) whole (there 0 no_number (omega (arith, count))) (there 1 no_number (omega (arith, count)))
    (means ∙ (λ i. of (head_meant t (head i)) (clause_at t (sym same i))) ∙ ap (λ xs. of Equal (clause_at t xs)) (two_of_length ids no_number count)) number

module _ (symbols : List Symbol) (s t : Term) (left_sorted : IsWellSorted symbols [] s) (right_sorted : IsWellSorted symbols [] t) (left : sort_of s ≡ Number) (right : sort_of t ≡ Number) where
  -- that one number is at most another is a formula
  order_formula : IsFormulaOver symbols (pair AtMost s t)
  unfolding sort_of
  order_formula = record { term = before symbols [] AtMost (s ∷ t ∷ []) (λ i. head_takes [] AtMost (left i ∷ right i ∷ [])) tt (left_sorted, (right_sorted, tt)); sort = refl }

  order_denied : IsFormulaOver symbols (negated (pair AtMost s t))
  order_denied = formula_negated symbols (pair AtMost s t) order_formula

-- and so is what orders an equality's sides
fact_formula : (symbols : List Symbol) (s t : Term) → IsWellSorted symbols [] (pair Equal s t) → IsFormulaOver symbols (negated (pair AtMost s t)) → IsFormulaOver symbols (negated (pair AtMost t s))
    → IsFormulaOver symbols (order_fact s t)
unfolding sort_of
fact_formula symbols s t sorted forth back = record {
  term = before symbols [] Or (pair Equal s t ∷ negated (pair AtMost s t) ∷ negated (pair AtMost t s) ∷ []) refl tt (sorted, (forth.term, (back.term, tt)));
  sort = refl;
}

module _ (t : TableView) (id : TermId) (x : Sides) (whole : IsTermIn t id) (is : AreSidesOf t (term_at t id) x) where
  -- an equality is a formula
  pub equality_formula : IsFormulaIn t id
  unfolding sort_of
  equality_formula = (whole.0, record { term = whole.1; sort = ap sort_of is.means })

  -- it has an order fact
  pub facts_are : order_facts (term_at t id) ≡ order_fact (term_at t x.left) (term_at t x.right) ∷ []
  facts_are =
      let fact = order_fact (term_at t x.left) (term_at t x.right) in
      ap order_facts is.means ∙ ap (λ (s : Sort). if same_sort Number s then fact ∷ [] else []) is.left.1

  -- and its clauses
  pub clauses_are : order_clauses (term_at t id) ≡ (order_fact (term_at t x.left) (term_at t x.right) ∷ []) ∷ order_clause t id x.left x.right ∷ order_clause t id x.right x.left ∷ []
  clauses_are =
      let fact = order_fact (term_at t x.left) (term_at t x.right) in
      let put : Term → List Clause = λ w. (fact ∷ []) ∷ (negated w ∷ order_at t x.left x.right ∷ []) ∷ (negated w ∷ order_at t x.right x.left ∷ []) ∷ [] in
      ap order_clauses is.means ∙ ap (λ (s : Sort). if same_sort Number s then put (pair Equal (term_at t x.left) (term_at t x.right)) else []) is.left.1 ∙ ap put (sym is.means)

  -- of which the first is right by its rule
  pub fact_right : IsRight LaDisequality [] none (order_fact (term_at t x.left) (term_at t x.right) ∷ [])
  fact_right = (term_at t x.left, term_at t x.right, is.left.1, is.right.1, refl)

  fact_over : IsFormulaOver t.symbols (order_fact (term_at t x.left) (term_at t x.right))
  fact_over =
      let forth = order_denied t.symbols (term_at t x.left) (term_at t x.right) is.left.0.1 is.right.0.1 is.left.1 is.right.1 in
      let back = order_denied t.symbols (term_at t x.right) (term_at t x.left) is.right.0.1 is.left.0.1 is.right.1 is.left.1 in
      fact_formula t.symbols (term_at t x.left) (term_at t x.right) (subst (IsWellSorted t.symbols []) is.means whole.1) forth back

module _ (t u : TableView) (wider : Widens t u) where
  -- a number is one in a wider table
  pub number_kept : (id : TermId) → IsNumberIn t id → IsNumberIn u id
  number_kept id h = (term_kept t u wider id h.0, ap sort_of (term_at-kept t u wider.terms id h.0.0) ∙ h.1)

  -- and has the same orders
  pub order_kept : (a b : TermId) → IsNumberIn t a → IsNumberIn t b → order_at u a b ≡ order_at t a b
  order_kept a b h k = λ i. pair AtMost (term_at-kept t u wider.terms a h.0.0 i) (term_at-kept t u wider.terms b k.0.0 i)

  -- an equality has the same sides
  pub sides_kept : (id : TermId) (x : Sides) → IsIn t id → AreSidesOf t (term_at t id) x → AreSidesOf u (term_at u id) x
  sides_kept id x there h = record {
    left = number_kept x.left h.left;
    right = number_kept x.right h.right;
    means = term_at-kept t u wider.terms id there ∙ h.means ∙ (λ i. pair Equal (sym (term_at-kept t u wider.terms x.left h.left.0.0) i) (sym (term_at-kept t u wider.terms x.right h.right.0.0) i));
  }

  -- a formula is one where it is put
  formula_put : (id : TermId) (w : Term) → IsFormulaOver t.symbols w → NamesTerm u w id → IsFormulaIn u id
  formula_put id w f put = (
    put.0,
    subst (λ (fs : List Symbol). IsFormulaOver fs (term_at u id)) (sym (symbols_same t u wider)) (subst (IsFormulaOver t.symbols) (sym put.1) f),
  )

  pub order_in : (a b id : TermId) → IsNumberIn t a → IsNumberIn t b → NamesTerm u (order_at t a b) id → IsFormulaIn u id
  order_in a b id h k put = formula_put id (order_at t a b) (order_formula t.symbols (term_at t a) (term_at t b) h.0.1 k.0.1 h.1 k.1) put

  pub denied_in : (a b id : TermId) → IsNumberIn t a → IsNumberIn t b → NamesTerm u (negated (order_at t a b)) id → IsFormulaIn u id
  denied_in a b id h k put = formula_put id (negated (order_at t a b)) (order_denied t.symbols (term_at t a) (term_at t b) h.0.1 k.0.1 h.1 k.1) put

  pub fact_in : (id : TermId) (x : Sides) (fact : TermId) → IsTermIn t id → AreSidesOf t (term_at t id) x → NamesTerm u (order_fact (term_at t x.left) (term_at t x.right)) fact → IsFormulaIn u fact
  fact_in id x fact whole is put = formula_put fact (order_fact (term_at t x.left) (term_at t x.right)) (fact_over t id x whole is) put

-- a disjunction of three formulas is placed
pub or_fits : (t : TableView) (n : Node) (a b c : TermId) → n.head ≡ heads.Or → n.arguments.items ≡ a ∷ b ∷ c ∷ [] → IsFormulaIn t a → IsFormulaIn t b → IsFormulaIn t c → IsPlaced t n
or_fits t n a b c head items f g h = record {
  head = subst (λ h. HasHead t h) (sym head) tt;
  arguments = subst (AreIn t) (sym items) (All-cons (IsIn t) a (b ∷ c ∷ []) f.0 (All-cons (IsIn t) b (c ∷ []) g.0 (All-cons (IsIn t) c [] h.0 (All-nil (IsIn t)))));
  sorts =
      ap (λ h. takes (head_meant t h) (map sort_of (clause_at t n.arguments.items))) head
      ∙ ap (λ (ids : List TermId). takes Or (map sort_of (clause_at t ids))) items
      ∙ (λ i. takes Or (f.1.sort i ∷ g.1.sort i ∷ h.1.sort i ∷ []));
}

-- the clauses that one side is at most the other are taken by the rule `la_generic`, unless an operation leaves the bound on numbers
module _ (t : TableView) (id : TermId) (x : Sides) (w : Ratio) (is : AreSidesOf t (term_at t id) x) where
  judged_by : (a b : TermId) (q : Fraction) → fraction w ≡ q
      → IsTakenOrWide (la_generic (negated (pair Equal (term_at t x.left) (term_at t x.right)) ∷ order_at t a b ∷ []) (given q ∷ given one_fraction ∷ []))
      → IsTakenOrWide (la_generic (order_clause t id a b) (arguments_by w))
  judged_by a b q same taken =
      subst (λ (e : Term). IsTakenOrWide (la_generic (negated e ∷ order_at t a b ∷ []) (arguments_by w))) (sym is.means)
      (subst (λ (q : Fraction). IsTakenOrWide (la_generic (negated (pair Equal (term_at t x.left) (term_at t x.right)) ∷ order_at t a b ∷ []) (given q ∷ given one_fraction ∷ []))) (sym same) taken)

  pub forth_judged : fraction w ≡ one_fraction → IsTakenOrWide (la_generic (order_clause t id x.left x.right) (arguments_by w))
  forth_judged same = judged_by x.left x.right one_fraction same (forth_taken (term_at t x.left) (term_at t x.right) is.left.1 is.right.1 t.symbols is.left.0.1 is.right.0.1)

  pub back_judged : fraction w ≡ opposite one_fraction → IsTakenOrWide (la_generic (order_clause t id x.right x.left) (arguments_by w))
  back_judged same = judged_by x.right x.left (opposite one_fraction) same (back_taken (term_at t x.left) (term_at t x.right) is.left.1 is.right.1 t.symbols is.left.0.1 is.right.0.1)

-- they are the same in a wider table
pub clause_kept : (t u : TableView) → Widens t u → (id a b : TermId) → IsIn t id → IsNumberIn t a → IsNumberIn t b → order_clause u id a b ≡ order_clause t id a b
clause_kept t u wider id a b there h k = λ i. negated (term_at-kept t u wider.terms id there i) ∷ order_kept t u wider a b h k i ∷ []
