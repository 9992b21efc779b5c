-- Names that come last, in signatures and in scopes.
use Rattle.std.proofs.Common.{◌≡◌, Bool, true, false, cond, [], ◌∷◌, ◌++◌, length, Some, None, refl, sym, ap, ◌∙◌, subst, arith, length-append}
use Rattle.std.specs.Str.{bytes_eq}
use Rattle.spec_text.specs.Bytes.{Name}
use Rattle.spec_sorts.specs.Terms.{Sort, Symbol}
use Rattle.spec_sorts.specs.Theory.{look_up}
use Rattle.spec_sorts.specs.Signatures.{Known, declared, defined, of_sort, of_function, Signature, known_as, known_name, sort_as, symbols_in}
use Rattle.spec_sorts.proofs.Signatures.{known_behind}
use Rattle.spec_reading.proofs.WellSorted.{sort_keeps_sorts, symbol_keeps_sorts}
use Rattle.term_core.specs.declared.sorts.Sort.{Sort as TableSort}
use Rattle.term_core.specs.Symbols.{HasSortIn, sort_meant, symbol_named}
use Rattle.term_core.specs.Tables.{TableView, Extends}
use Rattle.term_core.proofs.NamesApart.{same_bytes}
use Rattle.term_reader.specs.declared.scope.Function.{Function}
use Rattle.term_reader.specs.NameStacks.{newest}
use Rattle.term_reader.proofs.NameStacks.{newest_push}
use Rattle.term_reader.specs.Scopes.{ScopeView, sort_under, function_under, SortMeans, FunctionMeans, ScopeMeans}
use Rattle.assertion_stack.proofs.Growing.{sort_grown, function_grown}

-- a sort that is there is found there
sort_behind : (s t : Signature) (n : Name) → sort_as s n ≡ None → sort_as (s ++ t) n ≡ sort_as t n
sort_behind [] t n e = refl
sort_behind (of_function k ∷ s) t n e = sort_behind s t n e
sort_behind (of_sort m r ∷ s) t n e = go (bytes_eq m n) e (sort_behind s t n)
  where
    go : (b : Bool) → cond b (Some r) (sort_as s n) ≡ None → (sort_as s n ≡ None → sort_as (s ++ t) n ≡ sort_as t n) → cond b (Some r) (sort_as (s ++ t) n) ≡ sort_as t n
    go true h rest = cc
    go false h rest = rest h

-- a name that none of the later ones has is found as before
known_before : (s t : Signature) (n : Name) → known_as t n ≡ None → known_as (s ++ t) n ≡ known_as s n
known_before [] t n e = e
known_before (of_sort m r ∷ s) t n e = known_before s t n e
known_before (of_function k ∷ s) t n e = ap (λ o. cond (bytes_eq (known_name k) n) (Some k) o) (known_before s t n e)

pub sort_before : (s t : Signature) (n : Name) → sort_as t n ≡ None → sort_as (s ++ t) n ≡ sort_as s n
sort_before [] t n e = e
sort_before (of_function k ∷ s) t n e = sort_before s t n e
sort_before (of_sort m r ∷ s) t n e = ap (λ o. cond (bytes_eq m n) (Some r) o) (sort_before s t n e)

-- the sort of the last name
pub sort_last : (s : Signature) (m : Name) (r : Sort) (n : Name) → sort_as s m ≡ None → sort_as (s ++ of_sort m r ∷ []) n ≡ cond (bytes_eq m n) (Some r) (sort_as s n)
sort_last s m r n free = go (bytes_eq m n) refl
  where
    go : (b : Bool) → bytes_eq m n ≡ b → sort_as (s ++ of_sort m r ∷ []) n ≡ cond b (Some r) (sort_as s n)
    go true e = sort_behind s (of_sort m r ∷ []) n (subst (λ x. sort_as s x ≡ None) (same_bytes m n e) free) ∙ ap (λ b. cond b (Some r) None) e
    go false e = sort_before s (of_sort m r ∷ []) n (ap (λ b. cond b (Some r) None) e)

pub known_last : (s : Signature) (k : Known) (n : Name) → known_as s (known_name k) ≡ None → known_as (s ++ of_function k ∷ []) n ≡ cond (bytes_eq (known_name k) n) (Some k) (known_as s n)
known_last s k n free = go (bytes_eq (known_name k) n) refl
  where
    go : (b : Bool) → bytes_eq (known_name k) n ≡ b → known_as (s ++ of_function k ∷ []) n ≡ cond b (Some k) (known_as s n)
    go true e = known_behind s (of_function k ∷ []) n (subst (λ x. known_as s x ≡ None) (same_bytes (known_name k) n e) free) ∙ ap (λ b. cond b (Some k) None) e
    go false e = known_before s (of_function k ∷ []) n (ap (λ b. cond b (Some k) None) e)

-- a name that no function has is no symbol's
pub no_symbol_named : (s : Signature) (n : Name) → known_as s n ≡ None → symbol_named (symbols_in s) n ≡ None
no_symbol_named [] n e = refl
no_symbol_named (of_sort m r ∷ s) n e = no_symbol_named s n e
no_symbol_named (of_function (defined d) ∷ s) n e = go (bytes_eq d.name n) e (no_symbol_named s n)
  where
    go : (b : Bool) → cond b (Some (defined d)) (known_as s n) ≡ None → (known_as s n ≡ None → symbol_named (symbols_in s) n ≡ None) → symbol_named (symbols_in s) n ≡ None
    go true h rest = cc
    go false h rest = rest h
no_symbol_named (of_function (declared f) ∷ s) n e = go (bytes_eq f.name n) e (no_symbol_named s n)
  where
    go : (b : Bool) → cond b (Some (declared f)) (known_as s n) ≡ None → (known_as s n ≡ None → symbol_named (symbols_in s) n ≡ None) → cond b (Some f) (symbol_named (symbols_in s) n) ≡ None
    go true h rest = cc
    go false h rest = rest h

module _ (old new : TableView) (grows : Extends old new) (v : ScopeView) (s : Signature) (h : ScopeMeans old v s) where
  -- a name of a sort more
  pub means_sort : (n : Name) (x : TableSort) (r : Sort) → length v.sort_names ≡ length v.sorts → sort_as s n ≡ None → HasSortIn new.sorts x → sort_meant new.sorts x ≡ r
      → ScopeMeans new (record v { sort_names = v.sort_names ++ n ∷ []; sorts = v.sorts ++ x ∷ [] }) (s ++ of_sort n r ∷ [])
  means_sort n x r long free there means = record {
    sorts = λ m. subst (λ o. SortMeans new (look_up (newest (v.sort_names ++ n ∷ []) (v.sorts ++ x ∷ [])) m) o) (sym (sort_last s n r m free))
        (subst (λ l. SortMeans new (look_up l m) (cond (bytes_eq n m) (Some r) (sort_as s m))) (sym (newest_push v.sort_names v.sorts n x long)) (go m (bytes_eq n m)));
    functions = λ m. subst (FunctionMeans new (function_under v m)) (sym (known_before s (of_sort n r ∷ []) m refl)) (function_grown old new grows _ _ (h.functions m));
    count = omega (arith, h.count, length-append v.sort_names (n ∷ []), length-append s (of_sort n r ∷ []));
    sorted = sort_keeps_sorts s n r h.sorted;
  }
    where
      go : (m : Name) (b : Bool) → SortMeans new (cond b (Some x) (sort_under v m)) (cond b (Some r) (sort_as s m))
      go m true = (there, means)
      go m false = sort_grown old new grows _ _ (h.sorts m)

  -- a declared symbol more
  pub means_symbol : (x : Function) (f : Symbol) → length v.names ≡ length v.functions → known_as s f.name ≡ None → FunctionMeans new (Some x) (Some (declared f))
      → ScopeMeans new (record v { names = v.names ++ f.name ∷ []; functions = v.functions ++ x ∷ [] }) (s ++ of_function (declared f) ∷ [])
  means_symbol x f long free there = record {
    sorts = λ m. subst (SortMeans new (sort_under v m)) (sym (sort_before s (of_function (declared f) ∷ []) m refl)) (sort_grown old new grows _ _ (h.sorts m));
    functions = λ m. subst (λ o. FunctionMeans new (look_up (newest (v.names ++ f.name ∷ []) (v.functions ++ x ∷ [])) m) o) (sym (known_last s (declared f) m free))
        (subst (λ l. FunctionMeans new (look_up l m) (cond (bytes_eq f.name m) (Some (declared f)) (known_as s m))) (sym (newest_push v.names v.functions f.name x long)) (go m (bytes_eq f.name m)));
    count = omega (arith, h.count, length-append v.names (f.name ∷ []), length-append s (of_function (declared f) ∷ []));
    sorted = symbol_keeps_sorts s f h.sorted;
  }
    where
      go : (m : Name) (b : Bool) → FunctionMeans new (cond b (Some x) (function_under v m)) (cond b (Some (declared f)) (known_as s m))
      go m true = there
      go m false = function_grown old new grows _ _ (h.functions m)
