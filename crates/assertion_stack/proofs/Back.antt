-- Tables and scopes that are cut back to what they were.
use Rattle.std.proofs.Common.{◌≡◌, ℕ, List, [], ◌∷◌, ◌++◌, length, take, refl, sym, ap, ◌∙◌, arith}
use Rattle.std.proofs.lemmas.List.{take_all, take_at}
use Rattle.spec_text.specs.Bytes.{Name}
use Rattle.term_core.specs.declared.sorts.Sort.{Sort as TableSort}
use Rattle.term_core.specs.Tables.{TableView, declared_in}
use Rattle.term_reader.specs.declared.scope.Function.{Function}
use Rattle.term_reader.specs.Building.{KeepsTable}
use Rattle.term_reader.specs.Scopes.{ScopeView, Widens}

-- a scope with its first names alone
abbrev pub first_names : ℕ → ℕ → ScopeView → ScopeView
first_names m n v = record { sort_names = take m v.sort_names; sorts = take m v.sorts; names = take n v.names; functions = take n v.functions }

pub table_back : (t u w : TableView) (n : ℕ) → KeepsTable t u → n ≡ length t.terms → w.terms ≡ take n u.terms → declared_in w ≡ declared_in u → w ≡ t
table_back t u w n k e terms declared =
    let back : w.terms ≡ t.terms = terms ∙ (λ i. take (e i) (k.extends.terms i)) ∙ take_at t.terms k.extends.more_terms (length t.terms) refl in
    let same : declared_in w ≡ declared_in t = declared ∙ k.declared in
    λ i. record { sorts = (same i).sorts; symbols = (same i).symbols; terms = back i }

module _ (v : ScopeView) (m n : ℕ) (sorts_long : length v.sort_names ≡ length v.sorts) (long : length v.names ≡ length v.functions) (sorts : m ≡ length v.sort_names) (functions : n ≡ length v.names) where
  kept : {A : Type 0} (k : ℕ) (xs more : List A) → k ≡ length xs → take k (xs ++ more) ≡ xs
  kept k xs more e = take_at xs more k (sym e)

  -- names that came go again
  pub scope_back : (u : ScopeView) → Widens v u → first_names m n u ≡ v
  scope_back u w =
      let a : take m u.sort_names ≡ v.sort_names = ap (take m) w.sort_names ∙ take_all m v.sort_names (omega (arith, sorts)) in
      let b : take m u.sorts ≡ v.sorts = ap (take m) w.sorts ∙ take_all m v.sorts (omega (arith, sorts, sorts_long)) in
      let c : take n u.names ≡ v.names = ap (take n) w.names ∙ kept n v.names w.more_names functions in
      let d : take n u.functions ≡ v.functions = ap (take n) w.functions ∙ kept n v.functions w.more_functions (functions ∙ long) in
      λ i. record { sort_names = a i; sorts = b i; names = c i; functions = d i }

  -- and a name of a sort that came
  pub sort_back : (u : ScopeView) (x : Name) (y : TableSort) → u ≡ record v { sort_names = v.sort_names ++ x ∷ []; sorts = v.sorts ++ y ∷ [] } → first_names m n u ≡ v
  sort_back u x y e =
      let a : take m (v.sort_names ++ x ∷ []) ≡ v.sort_names = kept m v.sort_names (x ∷ []) sorts in
      let b : take m (v.sorts ++ y ∷ []) ≡ v.sorts = kept m v.sorts (y ∷ []) (sorts ∙ sorts_long) in
      let c : take n v.names ≡ v.names = take_all n v.names (omega (arith, functions)) in
      let d : take n v.functions ≡ v.functions = take_all n v.functions (omega (arith, functions, long)) in
      ap (first_names m n) e ∙ (λ i. record { sort_names = a i; sorts = b i; names = c i; functions = d i })

  -- or of a function
  pub function_back : (u : ScopeView) (x : Name) (f : Function) → u ≡ record v { names = v.names ++ x ∷ []; functions = v.functions ++ f ∷ [] } → first_names m n u ≡ v
  function_back u x f e =
      let a : take m v.sort_names ≡ v.sort_names = take_all m v.sort_names (omega (arith, sorts)) in
      let b : take m v.sorts ≡ v.sorts = take_all m v.sorts (omega (arith, sorts, sorts_long)) in
      let c : take n (v.names ++ x ∷ []) ≡ v.names = kept n v.names (x ∷ []) functions in
      let d : take n (v.functions ++ f ∷ []) ≡ v.functions = kept n v.functions (f ∷ []) (functions ∙ long) in
      ap (first_names m n) e ∙ (λ i. record { sort_names = a i; sorts = b i; names = c i; functions = d i })
