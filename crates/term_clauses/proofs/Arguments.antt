-- The arguments of a term of a table, and wider tables.
use Rattle.std.proofs.Common.{◌≡◌, ◌≢◌, ℕ, ◌+◌, ◌<◌, true, List, [], ◌∷◌, ◌++◌, length, map, get_or, take, refl, sym, ap, ap₂, ◌∙◌, subst, arith}
use Rattle.std.proofs.lemmas.List.{length-map, get_or-map, map-append, take_more}
use Rattle.std.proofs.lemmas.List.Elements.{All-push}
use Rattle.spec_sorts.specs.Terms.{Not, Term, Terms, app, nil, cons, terms_of, of, negated, sort_of}
use Rattle.spec_sorts.specs.Subsets.{arguments_of}
use Rattle.spec_sorts.proofs.General.{list_of-terms_of}
use Rattle.spec_rules.specs.Schemes.{innermost}
use Rattle.term_core.specs.declared.ids.TermId.{TermId}
use Rattle.term_core.specs.declared.nodes.Head.{Head as NodeHead}
use Rattle.term_core.specs.declared.nodes.Head.TheVariants as heads
use Rattle.term_core.specs.Tables.{TableView, term_at, IsIn, AreIn, clause_at, head_meant, takes, HasHead, IsPlaced, Shape, ShapeFits, shape_term}
use Rattle.term_core.specs.declared.nodes.Node.{Node}
use Rattle.proof_log.specs.Logs.{IsFormulaIn}
use Rattle.term_core.proofs.TermsExtend.{Extends-self, Extends-trans, AreIn-kept, clause_at-kept}
use Rattle.term_clauses.specs.Stating.{Widens}
use Rattle.rule_bool.proofs.Arities.{not_takes}

-- what no number means
abbrev pub no_number : TermId
no_number = record { 0 = 0 }

pub Widens-self : (t : TableView) → Widens t t
Widens-self t = record { terms = Extends-self t; declared = refl }

pub Widens-trans : (s t u : TableView) → Widens s t → Widens t u → Widens s u
Widens-trans s t u a b = record { terms = Extends-trans s t u a.terms b.terms; declared = b.declared ∙ a.declared }

module _ (t : TableView) (s : Shape) (term : Term) (means : term ≡ shape_term t s) where
  -- the arguments of a term by its node
  pub arguments_are : arguments_of term ≡ clause_at t s.arguments
  arguments_are = ap arguments_of means ∙ list_of-terms_of (clause_at t s.arguments)

  -- as many as the node has
  pub arguments_count : length (arguments_of term) ≡ length s.arguments
  arguments_count = ap length arguments_are ∙ length-map s.arguments (term_at t)

  -- and each the term of its number
  pub argument_at : (k : ℕ) (d : TermId) (e : Term) → k < length s.arguments → term_at t (get_or s.arguments k d) ≡ get_or (arguments_of term) k e
  argument_at k d e lt = sym (ap (λ (ts : List Term). get_or ts k e) arguments_are ∙ get_or-map (term_at t) s.arguments k d e lt)

-- no one argument
pub innermost_not_one : (ts : List Term) → length ts ≢ 1 → innermost ts ≡ []
innermost_not_one [] e = refl
innermost_not_one (t ∷ []) e = absurd (e refl)
innermost_not_one (app Not (cons x nil) ∷ u ∷ us) e = refl
innermost_not_one _ e = refl

-- one argument, that is no negation
pub innermost_other : (t : TableView) (h : NodeHead) (us : Terms) → (h ≡ heads.Not → ⊥) → innermost (app (head_meant t h) us ∷ []) ≡ []
innermost_other t heads.Not us differs = absurd (differs refl)
innermost_other t _ us differs = refl

-- one argument, that is one
pub one_of_length : (ts : List Term) (d : Term) → length ts ≡ 1 → ts ≡ get_or ts 0 d ∷ []
one_of_length [] d e = absurd (omega (arith, e))
one_of_length (t ∷ []) d e = refl
one_of_length (t ∷ u ∷ us) d e = absurd (omega (arith, e))

-- the one argument is a negation
pub innermost_there : (ts : List Term) (w x d : Term) → length ts ≡ 1 → w ≡ get_or ts 0 d → w ≡ negated x → innermost ts ≡ (x ∷ []) ∷ []
innermost_there ts w x d one e f = ap innermost (one_of_length ts d one ∙ ap (λ u. u ∷ []) (sym e ∙ f))

-- the one argument is no negation
pub innermost_none : (t : TableView) (ts : List Term) (s : Shape) (w d : Term) → length ts ≡ 1 → w ≡ get_or ts 0 d → w ≡ shape_term t s → (s.head ≡ heads.Not → ⊥) → innermost ts ≡ []
innermost_none t ts s w d one e f differs = ap innermost (one_of_length ts d one ∙ ap (λ u. u ∷ []) (sym e ∙ f)) ∙ innermost_other t s.head (terms_of (clause_at t s.arguments)) differs

-- a negation has one argument
module _ (t : TableView) (s : Shape) (term : Term) (fits : ShapeFits t s) (is_not : s.head ≡ heads.Not) (means : term ≡ shape_term t s) where
  pub negation_count : length (arguments_of term) ≡ 1
  negation_count =
      let sorts : takes Not (map sort_of (clause_at t s.arguments)) ≡ true = subst (λ h. takes (head_meant t h) (map sort_of (clause_at t s.arguments)) ≡ true) is_not fits.sorts in
      ap length (arguments_are t s term means) ∙ sym (length-map (clause_at t s.arguments) sort_of) ∙ not_takes (map sort_of (clause_at t s.arguments)) sorts

  pub negation_of : (d : Term) → term ≡ negated (get_or (arguments_of term) 0 d)
  negation_of d =
      let same : arguments_of term ≡ clause_at t s.arguments = arguments_are t s term means in
      let one : arguments_of term ≡ get_or (arguments_of term) 0 d ∷ [] = one_of_length (arguments_of term) d negation_count in
      means ∙ ap (λ h. of (head_meant t h) (clause_at t s.arguments)) is_not ∙ ap (of Not) (sym same ∙ one)

-- the negation of a formula is placed
pub not_fits : (t : TableView) (n : Node) (id : TermId) → n.head ≡ heads.Not → n.arguments.items ≡ id ∷ [] → IsFormulaIn t id → IsPlaced t n
not_fits t n id is_not one f = record {
  head = subst (λ h. HasHead t h) (sym is_not) tt;
  arguments = subst (AreIn t) (sym one) (All-push (λ x. IsIn t x) [] id (λ k d lt. absurd (omega (arith, lt))) f.0);
  sorts =
      ap (λ h. takes (head_meant t h) (map sort_of (clause_at t n.arguments.items))) is_not
      ∙ ap (λ (ids : List TermId). takes Not (map sort_of (clause_at t ids))) one
      ∙ ap (λ s. takes Not (s ∷ [])) f.1.sort;
}

-- one literal more, in a table that may have grown
module _ (now new : TableView) (wider : Widens now new) (ids all : List TermId) (n : TermId) (pushed : all ≡ ids ++ n ∷ []) (there : AreIn now ids) (here : IsIn new n) where
  pub literal_there : AreIn new all
  literal_there = subst (AreIn new) (sym pushed) (All-push (λ id. IsIn new id) ids n (AreIn-kept now new wider.terms ids there) here)

  pub literal_more : (stated_before : List Term) (u : Term) → clause_at now ids ≡ stated_before → term_at new n ≡ u → clause_at new all ≡ stated_before ++ u ∷ []
  literal_more stated_before u same means = ap (clause_at new) pushed ∙ map-append (term_at new) ids (n ∷ []) ∙ ap₂ (λ (xs : List Term) (x : Term). xs ++ x ∷ []) (clause_at-kept now new wider.terms ids there ∙ same) means

-- a literal more after a term
pub literals_more : {X : Type 0} (f : X → Term) (front : Term) (xs : List X) (k : ℕ) (d : X) → k < length xs → (front ∷ map f (take k xs)) ++ f (get_or xs k d) ∷ [] ≡ front ∷ map f (take (k + 1) xs)
literals_more f front xs k d lt = ap (λ (ts : List Term). front ∷ ts) (sym (map-append f (take k xs) (get_or xs k d ∷ [])) ∙ ap (map f) (sym (take_more xs k d lt)))
