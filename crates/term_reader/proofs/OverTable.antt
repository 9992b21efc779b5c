-- What a scope represents while the table grows, and when a name comes.
use Rattle.std.proofs.Common.{◌≡◌, Bool, true, false, cond, [], ◌∷◌, ◌++◌, length, Option, Some, None, refl, sym, ap, ◌∙◌, subst}
use Rattle.std.specs.Str.{bytes_eq}
use Rattle.spec_text.specs.Bytes.{Name}
use Rattle.spec_sorts.specs.Terms.{Sort}
use Rattle.spec_sorts.specs.Signatures.{Known, declared, defined, of_sort, of_function, Signature, known_name, known_as}
use Rattle.spec_sorts.specs.Theory.{look_up}
use Rattle.term_core.specs.declared.sorts.Sort.{Sort as TableSort}
use Rattle.term_core.specs.Symbols.{HasSortIn, sort_meant, symbol_at, IsSymbol, sorts_meant, HaveSortsIn}
use Rattle.term_core.specs.Tables.{TableView}
use Rattle.term_core.proofs.TermsExtend.{IsIn-kept, term_at-kept}
use Rattle.term_reader.specs.declared.scope.Function.{Function}
use Rattle.term_reader.specs.declared.scope.Function.TheVariants.{Declared, Defined}
use Rattle.term_reader.specs.Building.{KeepsTable}
use Rattle.term_core.proofs.NamesApart.{same_bytes}
use Rattle.term_reader.proofs.NameStacks.{newest_push}
use Rattle.term_reader.specs.Scopes.{ScopeView, SortMeans, FunctionMeans, function_under, ScopeMeans}

module _ (old new : TableView) (keeps : KeepsTable old new) where
  sorts_same : new.sorts ≡ old.sorts
  sorts_same = ap (λ d. d.sorts) keeps.declared

  symbols_same : new.symbols ≡ old.symbols
  symbols_same = ap (λ d. d.symbols) keeps.declared

  sort_kept : (s : Option TableSort) (r : Option Sort) → SortMeans old s r → SortMeans new s r
  sort_kept None None h = tt
  sort_kept (Some s) (Some r) h = subst (λ sorts. HasSortIn sorts s × (sort_meant sorts s ≡ r)) (sym sorts_same) h
  sort_kept None (Some r) h = absurd h
  sort_kept (Some s) None h = absurd h

  function_kept : (f : Option Function) (k : Option Known) → FunctionMeans old f k → FunctionMeans new f k
  function_kept None None h = tt
  function_kept None (Some k) h = absurd h
  function_kept (Some (Declared id)) None h = absurd h
  function_kept (Some (Defined m)) None h = absurd h
  function_kept (Some (Declared id)) (Some (declared f)) h = subst (λ symbols. IsSymbol symbols id × (symbol_at symbols id ≡ f)) (sym symbols_same) h
  function_kept (Some (Declared id)) (Some (defined d)) h = absurd h
  function_kept (Some (Defined m)) (Some (declared f)) h = absurd h
  function_kept (Some (Defined m)) (Some (defined d)) h = record {
    parameters_there = subst (λ sorts. HaveSortsIn sorts m.parameters.items) (sym sorts_same) h.parameters_there;
    parameters = ap (λ sorts. sorts_meant sorts m.parameters.items) sorts_same ∙ h.parameters;
    result_there = subst (λ sorts. HasSortIn sorts m.result) (sym sorts_same) h.result_there;
    result = ap (λ sorts. sort_meant sorts m.result) sorts_same ∙ h.result;
    body_there = IsIn-kept old new keeps.extends m.body h.body_there;
    body = term_at-kept old new keeps.extends m.body h.body_there ∙ h.body;
  }

  -- the scope represents the same signature
  pub meaning_kept : (v : ScopeView) (s : Signature) → ScopeMeans old v s → ScopeMeans new v s
  meaning_kept v s h = record { sorts = λ n. sort_kept _ _ (h.sorts n); functions = λ n. function_kept _ _ (h.functions n); count = h.count; sorted = h.sorted }

module _ (s : Signature) (k : Known) where
  -- what is known stays known
  pub known_before : (n : Name) (x : Known) → known_as s n ≡ Some x → known_as (s ++ of_function k ∷ []) n ≡ Some x
  known_before n x e = go s e
    where
      go : (ds : Signature) → known_as ds n ≡ Some x → known_as (ds ++ of_function k ∷ []) n ≡ Some x
      go [] e = cc
      go (of_sort m u ∷ ds) e = go ds e
      go (of_function j ∷ ds) e = one (bytes_eq (known_name j) n) e (go ds)
        where
          one : (b : Bool) → cond b (Some j) (known_as ds n) ≡ Some x → (known_as ds n ≡ Some x → known_as (ds ++ of_function k ∷ []) n ≡ Some x) → cond b (Some j) (known_as (ds ++ of_function k ∷ []) n) ≡ Some x
          one true e rec = e
          one false e rec = rec e

  -- a name that was not known may be the new one
  pub known_last : (n : Name) → known_as s n ≡ None → known_as (s ++ of_function k ∷ []) n ≡ cond (bytes_eq (known_name k) n) (Some k) None
  known_last n e = go s e
    where
      go : (ds : Signature) → known_as ds n ≡ None → known_as (ds ++ of_function k ∷ []) n ≡ cond (bytes_eq (known_name k) n) (Some k) None
      go [] e = refl
      go (of_sort m u ∷ ds) e = go ds e
      go (of_function j ∷ ds) e = one (bytes_eq (known_name j) n) e (go ds)
        where
          one : (b : Bool) → cond b (Some j) (known_as ds n) ≡ None → (known_as ds n ≡ None → known_as (ds ++ of_function k ∷ []) n ≡ cond (bytes_eq (known_name k) n) (Some k) None) → cond b (Some j) (known_as (ds ++ of_function k ∷ []) n) ≡ cond (bytes_eq (known_name k) n) (Some k) None
          one true e rec = cc
          one false e rec = rec e

-- a new name of a function
module _ (t : TableView) (v : ScopeView) (s : Signature) (n : Name) (f : Function) (k : Known) (long : length v.names ≡ length v.functions) (named : known_name k ≡ n) where
  abbrev pub with_function : ScopeView
  with_function = record v { names = v.names ++ n ∷ []; functions = v.functions ++ f ∷ [] }

  pub function_added : ((m : Name) → FunctionMeans t (function_under v m) (known_as s m)) → known_as s n ≡ None → FunctionMeans t (Some f) (Some k)
      → (m : Name) → FunctionMeans t (function_under with_function m) (known_as (s ++ of_function k ∷ []) m)
  function_added h new represents m =
      subst (λ o. FunctionMeans t o (known_as (s ++ of_function k ∷ []) m)) (ap (λ es. look_up es m) (sym (newest_push v.names v.functions n f long))) (go (bytes_eq n m) refl)
    where
      later : (o : Option Known) → known_as s m ≡ o → bytes_eq n m ≡ false → FunctionMeans t (function_under v m) o → FunctionMeans t (function_under v m) (known_as (s ++ of_function k ∷ []) m)
      later (Some x) e other g = subst (FunctionMeans t (function_under v m)) (sym (known_before s k m x e)) g
      later None e other g =
          let none : known_as (s ++ of_function k ∷ []) m ≡ None = known_last s k m e ∙ ap (λ b. cond b (Some k) None) (ap (λ x. bytes_eq x m) named ∙ other) in
          subst (FunctionMeans t (function_under v m)) (sym none) g

      go : (b : Bool) → bytes_eq n m ≡ b → FunctionMeans t (cond b (Some f) (function_under v m)) (known_as (s ++ of_function k ∷ []) m)
      go true e =
          let is : n ≡ m = same_bytes n m e in
          let last : known_as (s ++ of_function k ∷ []) m ≡ Some k = known_last s k m (ap (known_as s) (sym is) ∙ new) ∙ ap (λ b. cond b (Some k) None) (ap (λ x. bytes_eq x m) named ∙ e) in
          subst (FunctionMeans t (Some f)) (sym last) represents
      go false e = later (known_as s m) refl e (h m)
