-- What a scope represents while the table grows.
use Rattle.std.proofs.Common.{◌≡◌, ◌<◌, List, length, Option, Some, None, sym, ap, ◌∙◌, subst, arith, length-append}
use Rattle.std.proofs.lemmas.List.{get_or_append_left}
use Rattle.spec_sorts.specs.Terms.{Sort}
use Rattle.spec_sorts.specs.Signatures.{Known, declared, defined, Signature}
use Rattle.term_core.specs.declared.sorts.Sort.{Sort as TableSort}
use Rattle.term_core.specs.Symbols.{HaveSortsIn, sorts_meant, symbol_at, no_symbol}
use Rattle.term_core.specs.Tables.{TableView, Extends}
use Rattle.term_core.proofs.TermsExtend.{HasSortIn-kept, sort_meant-kept, HaveSortsIn-more, sorts_meant-more, IsIn-kept, term_at-kept}
use Rattle.term_reader.specs.declared.scope.Function.{Function}
use Rattle.term_reader.specs.declared.scope.Function.TheVariants.{Declared, Defined}
use Rattle.term_reader.specs.Scopes.{ScopeView, SortMeans, FunctionMeans, ScopeMeans}

module _ (old new : TableView) (grows : Extends old new) where
  pub sort_grown : (s : Option TableSort) (r : Option Sort) → SortMeans old s r → SortMeans new s r
  sort_grown None None h = tt
  sort_grown (Some s) (Some r) h = (HasSortIn-kept old new grows s h.0, sort_meant-kept old new grows s h.0 ∙ h.1)
  sort_grown None (Some r) h = absurd h
  sort_grown (Some s) None h = absurd h

  all_there : (ss : List TableSort) → HaveSortsIn old.sorts ss → HaveSortsIn new.sorts ss
  all_there ss h = subst (λ l. HaveSortsIn l ss) (sym grows.sorts) (HaveSortsIn-more old.sorts grows.more_sorts ss h)

  all_mean : (ss : List TableSort) → HaveSortsIn old.sorts ss → sorts_meant new.sorts ss ≡ sorts_meant old.sorts ss
  all_mean ss h = ap (λ l. sorts_meant l ss) grows.sorts ∙ sorts_meant-more old.sorts grows.more_sorts ss h

  pub function_grown : (f : Option Function) (k : Option Known) → FunctionMeans old f k → FunctionMeans new f k
  function_grown None None h = tt
  function_grown None (Some k) h = absurd h
  function_grown (Some (Declared id)) None h = absurd h
  function_grown (Some (Defined m)) None h = absurd h
  function_grown (Some (Declared id)) (Some (declared f)) h = (
    subst (λ l. id.0 < length l) (sym grows.symbols) (omega (arith, h.0, length-append old.symbols grows.more_symbols)),
    ap (λ l. symbol_at l id) grows.symbols ∙ get_or_append_left old.symbols grows.more_symbols no_symbol id.0 h.0 ∙ h.1,
  )
  function_grown (Some (Declared id)) (Some (defined d)) h = absurd h
  function_grown (Some (Defined m)) (Some (declared f)) h = absurd h
  function_grown (Some (Defined m)) (Some (defined d)) h = record {
    parameters_there = all_there m.parameters.items h.parameters_there;
    parameters = all_mean m.parameters.items h.parameters_there ∙ h.parameters;
    result_there = HasSortIn-kept old new grows m.result h.result_there;
    result = sort_meant-kept old new grows m.result h.result_there ∙ h.result;
    body_there = IsIn-kept old new grows m.body h.body_there;
    body = term_at-kept old new grows m.body h.body_there ∙ h.body;
  }

-- where names are the same
pub means_grown : (old new : TableView) (v : ScopeView) (s : Signature) → Extends old new → ScopeMeans old v s → ScopeMeans new v s
means_grown old new v s grows h = record {
  sorts = λ n. sort_grown old new grows _ _ (h.sorts n);
  functions = λ n. function_grown old new grows _ _ (h.functions n);
  count = h.count;
  sorted = h.sorted;
}
