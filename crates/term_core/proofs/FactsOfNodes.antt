-- The facts of what is written with terms of a table.
use Rattle.std.proofs.Common.{◌≡◌, ℕ, ◌≤◌, Bool, true, false, ◌&&◌, pos, List, [], ◌∷◌, length, map, get_or, refl, sym, ap, ◌∙◌, subst, arith}
use Rattle.std.specs.Bool.{Decides}
use Rattle.std.specs.Ordering.{int_eq}
use Rattle.std.proofs.lemmas.Bool.Decides.{same_from_decides, Decides-int_eq}
use Rattle.spec_numbers.specs.Fractions.{Fraction, zero_fraction}
use Rattle.spec_numbers.proofs.Field.{zero_of}
use Rattle.ratio128.specs.Meant.{fraction}
use Rattle.std.proofs.lemmas.List.{length-map}
use Rattle.ratio128.specs.declared.ratio.Ratio.{Ratio}
use Rattle.spec_sorts.specs.Terms.{Sort, Truth, Number, Not, Minus, Divide, Ite, Term, of, terms_of, sort_of, negated}
use Rattle.spec_sorts.specs.Theory.{is_constant, are_constant, keeps_constant, each_passes, is_divisor, is_zero_divisor}
use Rattle.term_core.specs.declared.ids.TermId.{TermId}
use Rattle.term_core.specs.declared.ids.SymbolId.{SymbolId}
use Rattle.term_core.specs.declared.sorts.Sort.{Sort as TableSort}
use Rattle.term_core.specs.declared.nodes.Head.{Head as NodeHead}
use Rattle.term_core.specs.declared.nodes.Head.TheVariants as heads
use Rattle.term_core.specs.Symbols.{sort_meant, symbol_at}
use Rattle.term_core.specs.Tables.{TableView, term_at, clause_at, head_meant, takes, Shape, ShapeFits, shape_term}

-- numbers have these heads, and those of symbols, parameters and `ite`
abbrev pub IsOfNumbers : NodeHead → Type 0
IsOfNumbers heads.Minus = Unit {0}
IsOfNumbers heads.Plus = Unit {0}
IsOfNumbers heads.Times = Unit {0}
IsOfNumbers heads.Divide = Unit {0}
IsOfNumbers (heads.Literal q) = Unit {0}
IsOfNumbers h = ⊥

module _ (t : TableView) (ids : List TermId) where
  -- the term of a head before the arguments
  abbrev pub term : NodeHead → Term
  term h = shape_term t (record { head = h; arguments = ids })

  pub number_sort : (h : NodeHead) → IsOfNumbers h → Number ≡ sort_of (term h)
  unfolding sort_of
  number_sort heads.Minus n = refl
  number_sort heads.Plus n = refl
  number_sort heads.Times n = refl
  number_sort heads.Divide n = refl
  number_sort (heads.Literal q) n = refl
  number_sort heads.True n = absurd n
  number_sort heads.False n = absurd n
  number_sort heads.Not n = absurd n
  number_sort heads.And n = absurd n
  number_sort heads.Or n = absurd n
  number_sort heads.Xor n = absurd n
  number_sort heads.Implies n = absurd n
  number_sort heads.Equal n = absurd n
  number_sort heads.Ite n = absurd n
  number_sort heads.Less n = absurd n
  number_sort heads.AtMost n = absurd n
  number_sort (heads.Apply s) n = absurd n
  number_sort (heads.Parameter k s) n = absurd n

  pub symbol_sort : (h : NodeHead) (s : SymbolId) → h ≡ heads.Apply s → (symbol_at t.symbols s).result ≡ sort_of (term h)
  unfolding sort_of
  symbol_sort h s e = subst (λ g. (symbol_at t.symbols s).result ≡ sort_of (term g)) (sym e) refl

  pub parameter_sort : (h : NodeHead) (k : ℕ) (s : TableSort) → h ≡ heads.Parameter k s → sort_meant t.sorts s ≡ sort_of (term h)
  unfolding sort_of
  parameter_sort h k s e = subst (λ g. sort_meant t.sorts s ≡ sort_of (term g)) (sym e) refl

  -- all others have the sort Bool
  pub truth_sort : (h : NodeHead) → (h ≡ heads.Ite → ⊥) → (h ≡ heads.Minus → ⊥) → (h ≡ heads.Plus → ⊥) → (h ≡ heads.Times → ⊥) → (h ≡ heads.Divide → ⊥)
      → ((q : Ratio) → h ≡ heads.Literal q → ⊥) → ((s : SymbolId) → h ≡ heads.Apply s → ⊥) → ((k : ℕ) (s : TableSort) → h ≡ heads.Parameter k s → ⊥) → Truth ≡ sort_of (term h)
  unfolding sort_of
  truth_sort heads.Ite ite minus plus times divide literal symbol parameter = absurd (ite refl)
  truth_sort heads.Minus ite minus plus times divide literal symbol parameter = absurd (minus refl)
  truth_sort heads.Plus ite minus plus times divide literal symbol parameter = absurd (plus refl)
  truth_sort heads.Times ite minus plus times divide literal symbol parameter = absurd (times refl)
  truth_sort heads.Divide ite minus plus times divide literal symbol parameter = absurd (divide refl)
  truth_sort (heads.Literal q) ite minus plus times divide literal symbol parameter = absurd (literal q refl)
  truth_sort (heads.Apply s) ite minus plus times divide literal symbol parameter = absurd (symbol s refl)
  truth_sort (heads.Parameter k s) ite minus plus times divide literal symbol parameter = absurd (parameter k s refl)
  truth_sort _ ite minus plus times divide literal symbol parameter = refl

  -- a head that keeps no term constant
  pub constant_no : (h : NodeHead) → keeps_constant (head_meant t h) ≡ false → false ≡ is_constant (term h)
  unfolding is_constant
  constant_no h e = ap (λ b. b && are_constant (terms_of (clause_at t ids))) (sym e)

  pub constant_as : (h : NodeHead) (b : Bool) → keeps_constant (head_meant t h) ≡ true → b ≡ each_passes is_constant (clause_at t ids) → b ≡ is_constant (term h)
  unfolding is_constant
  constant_as h b e is = is ∙ each (clause_at t ids) ∙ ap (λ k. k && are_constant (terms_of (clause_at t ids))) (sym e)
    where
      each : (ts : List Term) → each_passes is_constant ts ≡ are_constant (terms_of ts)
      each [] = refl
      each (u ∷ us) = ap (λ k. is_constant u && k) (each us)

  -- a literal may be a divisor
  pub divisor_literal : (h : NodeHead) (q : Ratio) → h ≡ heads.Literal q → true ≡ is_divisor (term h)
  unfolding is_divisor
  divisor_literal h q e = subst (λ g. true ≡ is_divisor (term g)) (sym e) refl

  -- and besides it nothing but `-` and `/`
  pub no_divisor : (h : NodeHead) → ((q : Ratio) → h ≡ heads.Literal q → ⊥) → (h ≡ heads.Minus → ⊥) → (h ≡ heads.Divide → ⊥) → false ≡ is_divisor (term h)
  unfolding is_divisor
  no_divisor (heads.Literal q) literal negative quotient = absurd (literal q refl)
  no_divisor heads.Minus literal negative quotient = absurd (negative refl)
  no_divisor heads.Divide literal negative quotient = absurd (quotient refl)
  no_divisor _ literal negative quotient = refl

  pub zero_literal : (h : NodeHead) (q : Ratio) (b : Bool) → h ≡ heads.Literal q → Decides b (fraction q ≡ zero_fraction) → b ≡ is_zero_divisor (term h)
  unfolding is_zero_divisor
  zero_literal h q b e d = subst (λ g. b ≡ is_zero_divisor (term g)) (sym e) (same_from_decides b (int_eq q.num (pos 0)) d (
    (λ zero. zero_of (fraction q) (record { positive = q.parts.positive; coprime = q.parts.coprime }) ((Decides-int_eq q.num (pos 0)).0 zero)),
    (λ zero. (Decides-int_eq q.num (pos 0)).1 (ap (λ (x : Fraction). x.num) zero)),
  ))

  pub no_zero : (h : NodeHead) → ((q : Ratio) → h ≡ heads.Literal q → ⊥) → (h ≡ heads.Minus → ⊥) → (h ≡ heads.Divide → ⊥) → false ≡ is_zero_divisor (term h)
  unfolding is_zero_divisor
  no_zero (heads.Literal q) literal negative quotient = absurd (literal q refl)
  no_zero heads.Minus literal negative quotient = absurd (negative refl)
  no_zero heads.Divide literal negative quotient = absurd (quotient refl)
  no_zero _ literal negative quotient = refl

-- one term alone may be negated
pub no_negative : (t : TableView) (ids : List TermId) → (length ids ≡ 1 → ⊥) → false ≡ is_divisor (of Minus (clause_at t ids))
unfolding is_divisor
no_negative t [] other = refl
no_negative t (x ∷ []) other = absurd (other refl)
no_negative t (x ∷ y ∷ ids) other = refl

-- and two may be a quotient
pub no_quotient : (t : TableView) (ids : List TermId) → (length ids ≡ 2 → ⊥) → false ≡ is_divisor (of Divide (clause_at t ids))
unfolding is_divisor
no_quotient t [] other = refl
no_quotient t (x ∷ []) other = refl
no_quotient t (x ∷ y ∷ []) other = absurd (other refl)
no_quotient t (x ∷ y ∷ z ∷ ids) other = refl

-- `ite` takes three arguments
pub ite_long : (ss : List Sort) → takes Ite ss ≡ true → length ss ≡ 3
ite_long (Truth ∷ s ∷ t ∷ []) e = refl
ite_long _ e = cc

-- what fits with the head `ite` has three arguments
pub ite_fits : (t : TableView) (s : Shape) → ShapeFits t s → s.head ≡ heads.Ite → length s.arguments ≡ 3
ite_fits t s f e =
    sym (length-map s.arguments (term_at t)) ∙ sym (length-map (clause_at t s.arguments) sort_of)
    ∙ ite_long (map sort_of (clause_at t s.arguments)) (ap (λ h. takes (head_meant t h) (map sort_of (clause_at t s.arguments))) (sym e) ∙ f.sorts)

-- the sort of `ite` is that of its second argument
pub ite_sort : (t : TableView) (ids : List TermId) (h : NodeHead) (d : TermId) → h ≡ heads.Ite → 2 ≤ length ids → sort_of (term_at t (get_or ids 1 d)) ≡ sort_of (shape_term t (record { head = h; arguments = ids }))
unfolding sort_of
ite_sort t [] h d e long = absurd (omega (arith, long))
ite_sort t (x ∷ []) h d e long = absurd (omega (arith, long))
ite_sort t (x ∷ y ∷ ids) h d e long = subst (λ g. sort_of (term_at t y) ≡ sort_of (shape_term t (record { head = g; arguments = x ∷ y ∷ ids }))) (sym e) refl

-- `not` takes one argument
not_long : (ss : List Sort) → takes Not ss ≡ true → length ss ≡ 1
not_long (Truth ∷ []) e = refl
not_long _ e = cc

-- what fits with the head `not` has one argument
pub not_fits : (t : TableView) (s : Shape) → ShapeFits t s → s.head ≡ heads.Not → length s.arguments ≡ 1
not_fits t s f e =
    sym (length-map s.arguments (term_at t)) ∙ sym (length-map (clause_at t s.arguments) sort_of)
    ∙ not_long (map sort_of (clause_at t s.arguments)) (ap (λ h. takes (head_meant t h) (map sort_of (clause_at t s.arguments))) (sym e) ∙ f.sorts)

-- which it negates
pub not_is : (t : TableView) (s : Shape) (d : TermId) → ShapeFits t s → s.head ≡ heads.Not → shape_term t s ≡ negated (term_at t (get_or s.arguments 0 d))
not_is t s d f e = go s.head s.arguments e (not_fits t s f e)
  where
    go : (h : NodeHead) (ids : List TermId) → h ≡ heads.Not → length ids ≡ 1 → shape_term t (record { head = h; arguments = ids }) ≡ negated (term_at t (get_or ids 0 d))
    go h (x ∷ []) e long = subst (λ g. shape_term t (record { head = g; arguments = x ∷ [] }) ≡ negated (term_at t x)) (sym e) refl
    go h [] e long = absurd (omega (arith, long))
    go h (x ∷ y ∷ ids) e long = absurd (omega (arith, long))
