-- What declarations make of a stack.
use Rattle.std.proofs.Common.{◌≡◌, ℕ, Bool, true, false, cond, [], ◌∷◌, ◌++◌, length, Option, Some, None, refl, sym, ap, ◌∙◌, subst, arith, length-append}
use Rattle.std.specs.Str.{bytes_eq}
use Rattle.std.proofs.lemmas.List.{append-nil, get_or_push}
use Rattle.spec_text.specs.Bytes.{Name, among}
use Rattle.spec_text.proofs.General.{among_last}
use Rattle.spec_sorts.specs.Terms.{Sort, Declared, Symbol}
use Rattle.spec_sorts.specs.Signatures.{Declaration, declared, of_sort, of_function, known_as, sort_as, symbols_in}
use Rattle.spec_sorts.proofs.Signatures.{symbols_append}
use Rattle.spec_commands.specs.Stack.{Stack, signature_of, assertions_of, begun, with_declaration}
use Rattle.spec_commands.proofs.Kept.{signature_last}
use Rattle.spec_commands.proofs.Levels.{up_to_declared, leveled_declared}
use Rattle.term_core.specs.declared.sorts.Sort.{Sort as TableSort}
use Rattle.term_core.specs.declared.sorts.Sort.TheVariants.{Declared as declared_sort}
use Rattle.term_core.specs.Symbols.{HasSortIn, sort_meant, no_symbol}
use Rattle.term_core.specs.Tables.{TableView, Extends}
use Rattle.term_core.proofs.TermsExtend.{AreIn-kept, clause_at-kept, Extends-self}
use Rattle.term_reader.specs.declared.scope.Function.{Function}
use Rattle.term_reader.specs.declared.scope.Function.TheVariants as functions
use Rattle.term_reader.specs.Scopes.{IsScope, ScopeMeans}
use Rattle.assertion_stack.specs.declared.stack.Stack.{Stack as CodeStack}
use Rattle.assertion_stack.specs.Levels.{Contents, States, AreMarked}
use Rattle.assertion_stack.specs.Stacks.{options_meant, over_table, contents, IsStack, with_sort, with_function}
use Rattle.assertion_stack.proofs.Cuts.{itself, HasMore, grows, marks_grown}
use Rattle.assertion_stack.proofs.Stacks.{even_stated, begun_stack}
use Rattle.assertion_stack.proofs.Naming.{sort_last, sort_before, means_sort, means_symbol}

-- a table with a sort more
pub sort_grows : (t : TableView) (n : Name) → Extends t (record t { sorts = t.sorts ++ n ∷ [] })
sort_grows t n = record { more_sorts = n ∷ []; sorts = refl; more_symbols = []; symbols = sym (append-nil t.symbols); more_terms = []; terms = sym (append-nil t.terms) }

-- and with a symbol more
pub symbol_grows : (t : TableView) (f : Symbol) → Extends t (record t { symbols = t.symbols ++ f ∷ [] })
symbol_grows t f = record { more_sorts = []; sorts = sym (append-nil t.sorts); more_symbols = f ∷ []; symbols = refl; more_terms = []; terms = sym (append-nil t.terms) }

neither : (b : Bool) (r : Sort) (o : Option Sort) → cond b (Some r) o ≡ None → (b ≡ false) × (o ≡ None)
neither true r o e = cc
neither false r o e = (refl, e)

module _ (limit : ℕ) (old new : TableView) (x : CodeStack) (s : Stack) (h : IsStack limit (over_table old x) s) (extends : Extends old new) (long : IsScope x.scope.sort_names x.scope.sorts x.scope.names x.scope.functions) where
  -- a declaration more, by more contents that state it
  with_name : (y : CodeStack) (d : Declaration) → y ≡ record x { scope = y.scope; started = true } → HasMore (contents (over_table old x)) (contents (over_table new y)) → States (contents (over_table new y)) (signature_of (with_declaration s d)) (assertions_of s)
      → IsStack limit (over_table new y) (begun (with_declaration s d))
  with_name y d same more states =
      let c : Contents = contents (over_table old x) in
      let e : Contents = contents (over_table new y) in
      let began = begun_stack limit old x s h in
      let next : Stack = with_declaration (begun s) d in
      let marked : AreMarked x.marks e next =
      marks_grown x.marks c (begun s) began.marked e next (grows c e (even_stated limit (over_table old x) s h long) more) (leveled_declared (begun s) d refl began.marked.leveled) refl refl (λ k lt. refl) (λ off k lt. ap signature_of (up_to_declared k (begun s) d off lt)) in record {
        limit_is = ap (λ (z : CodeStack). z.limit) same ∙ h.limit_is;
        states = states;
        marked = subst (λ ms. AreMarked ms e next) (sym (ap (λ (z : CodeStack). z.marks) same)) marked;
        options = ap (λ (z : CodeStack). options_meant z.options) same ∙ h.options;
        started = ap (λ (z : CodeStack). z.started) same;
      }

  -- a name of a sort more
  pub sort_stack : (n : Name) (y : TableSort) (r : Sort) → new.symbols ≡ old.symbols → sort_as (signature_of s) n ≡ None → HasSortIn new.sorts y → sort_meant new.sorts y ≡ r
      → ((m : Name) → sort_as (signature_of s) m ≡ None → bytes_eq n m ≡ false → among new.sorts m ≡ false) → IsStack limit (over_table new (with_sort x n y)) (begun (with_declaration s (of_sort n r)))
  sort_stack n y r symbols free there means others =
      let g = signature_of s in
      let last = signature_last s (of_sort n r) in
      with_name (with_sort x n y) (of_sort n r) refl
      (record {
        table = extends;
        sort_names = (n ∷ [], refl);
        sorts = (y ∷ [], refl);
        names = itself x.scope.names;
        functions = itself x.scope.functions;
        ids = itself x.assertions.ids;
        written = itself x.assertions.written;
      })
      (record {
        scope = subst (ScopeMeans new _) (sym last) (means_sort old new extends x.scope g h.states.scope n y r long.each_sort free there means);
        symbols = symbols ∙ h.states.symbols ∙ sym (append-nil (symbols_in g)) ∙ sym (symbols_append g (of_sort n r ∷ [])) ∙ ap symbols_in (sym last);
        sorts = λ m e. let both = neither (bytes_eq n m) r (sort_as g m) (sym (sort_last g n r m free) ∙ ap (λ z. sort_as z m) (sym last) ∙ e) in others m both.1 both.0;
        inside = AreIn-kept old new extends x.assertions.ids h.states.inside;
        terms = clause_at-kept old new extends x.assertions.ids h.states.inside ∙ h.states.terms;
        written = h.states.written;
      })

module _ (limit : ℕ) (t : TableView) (x : CodeStack) (s : Stack) (h : IsStack limit (over_table t x) s) (long : IsScope x.scope.sort_names x.scope.sorts x.scope.names x.scope.functions) where
  -- the name of a sort, in the same table
  pub alias_stack : (n : Name) (y : TableSort) (r : Sort) → sort_as (signature_of s) n ≡ None → HasSortIn t.sorts y → sort_meant t.sorts y ≡ r → IsStack limit (over_table t (with_sort x n y)) (begun (with_declaration s (of_sort n r)))
  alias_stack n y r free there means = sort_stack limit t t x s h (Extends-self t) long n y r refl free there means (λ m e f. h.states.sorts m e)

  -- a sort of its own
  pub declared_stack : (n : Name) → sort_as (signature_of s) n ≡ None → IsStack limit (over_table (record t { sorts = t.sorts ++ n ∷ [] }) (with_sort x n (declared_sort (record { 0 = length t.sorts })))) (begun (with_declaration s (of_sort n (Declared n))))
  declared_stack n free =
      sort_stack limit t (record t { sorts = t.sorts ++ n ∷ [] }) x s h (sort_grows t n) long n (declared_sort (record { 0 = length t.sorts })) (Declared n) refl free (omega (arith, length-append t.sorts (n ∷ []))) (ap Declared (get_or_push t.sorts n [] (length t.sorts) refl))
      (λ m e f. among_last t.sorts n m (h.states.sorts m e) f)

  -- a symbol
  pub symbol_stack : (f : Symbol) → known_as (signature_of s) f.name ≡ None
      → IsStack limit (over_table (record t { symbols = t.symbols ++ f ∷ [] }) (with_function x f.name (functions.Declared (record { 0 = length t.symbols })))) (begun (with_declaration s (of_function (declared f))))
  symbol_stack f free =
      let new : TableView = record t { symbols = t.symbols ++ f ∷ [] } in
      let extends : Extends t new = symbol_grows t f in
      let id : Function = functions.Declared (record { 0 = length t.symbols }) in
      let g = signature_of s in
      let last = signature_last s (of_function (declared f)) in
      with_name limit t new x s h extends long (with_function x f.name id) (of_function (declared f)) refl
      (record {
        table = extends;
        sort_names = itself x.scope.sort_names;
        sorts = itself x.scope.sorts;
        names = (f.name ∷ [], refl);
        functions = (id ∷ [], refl);
        ids = itself x.assertions.ids;
        written = itself x.assertions.written;
      })
      (record {
        scope = subst (ScopeMeans new _) (sym last) (means_symbol t new extends x.scope g h.states.scope id f long.each_function free (omega (arith, length-append t.symbols (f ∷ [])), get_or_push t.symbols f no_symbol (length t.symbols) refl));
        symbols = ap (λ fs. fs ++ f ∷ []) h.states.symbols ∙ sym (symbols_append g (of_function (declared f) ∷ [])) ∙ ap symbols_in (sym last);
        sorts = λ m e. h.states.sorts m (sym (sort_before g (of_function (declared f) ∷ []) m refl) ∙ ap (λ z. sort_as z m) (sym last) ∙ e);
        inside = AreIn-kept t new extends x.assertions.ids h.states.inside;
        terms = clause_at-kept t new extends x.assertions.ids h.states.inside ∙ h.states.terms;
        written = h.states.written;
      })
