-- What stays where levels are closed while declarations are global: all names, and the terms that definitions need.
use Rattle.std.proofs.Common.{◌≡◌, ℕ, suc, max, ◌<◌, ◌≤◌, Bool, true, false, cond, List, [], ◌∷◌, ◌++◌, length, take, drop, map, All, Contains, Option, Some, None, refl, sym, ap, ◌∙◌, subst, arith}
use Rattle.std.specs.Prelude.{nat_lt}
use Rattle.std.specs.Str.{bytes_eq}
use Rattle.std.proofs.lemmas.Bool.{lt-ltb, ltb-true}
use Rattle.std.proofs.lemmas.List.{append-nil, map-append, length-map, length-take, take_all, take_at, take-map, take-append-drop}
use Rattle.std.proofs.lemmas.List.Elements.{All-nil, All-weaker, Contains-append_left}
use Rattle.spec_text.specs.Bytes.{Name}
use Rattle.spec_sorts.specs.Terms.{Sort, app}
use Rattle.spec_sorts.specs.Theory.{look_up}
use Rattle.spec_sorts.specs.Signatures.{Known, declared, defined, Signature, known_as, sort_as}
use Rattle.spec_commands.specs.Stack.{Assertion, Stack, signature_of, assertions_of, up_to_level, emptied}
use Rattle.spec_commands.proofs.Levels.{global_names, global_emptied, assertions_up_to, leveled_emptied}
use Rattle.term_core.specs.declared.ids.TermId.{TermId}
use Rattle.term_core.specs.declared.sorts.Sort.{Sort as TableSort}
use Rattle.term_core.specs.Tables.{TableView, term_at, IsIn, AreIn, clause_at, Extends}
use Rattle.term_core.specs.Uses.{UsesDeclared}
use Rattle.term_core.proofs.TermsExtend.{term_at-kept, clause_at-kept}
use Rattle.term_reader.specs.NameStacks.{newest}
use Rattle.term_reader.proofs.NameStacks.{look_before, look_after}
use Rattle.term_reader.specs.declared.scope.Macro.{Macro}
use Rattle.term_reader.specs.declared.scope.Function.{Function}
use Rattle.term_reader.specs.declared.scope.Function.TheVariants.{Declared, Defined}
use Rattle.term_reader.specs.Scopes.{ScopeView, IsScope, sort_under, function_under, body_end, terms_needed, SortMeans, FunctionMeans, ScopeMeans}
use Rattle.assertion_stack.specs.declared.marks.Mark.{Mark}
use Rattle.assertion_stack.specs.Assertions.{as_written}
use Rattle.assertion_stack.specs.Levels.{Contents, States, mark_of, no_mark, mark_at, global_mark, closing_mark, cut_to, IsWithin}
use Rattle.assertion_stack.specs.Stacks.{OverTable, contents, cut_back, level_mark, closed_to, IsStack}
use Rattle.assertion_stack.proofs.Cuts.{marks_closed, none_marked}

-- no more terms are needed than there are
body_most : (len : ℕ) (f : Function) → body_end len f ≤ len
body_most len (Declared id) = omega arith
body_most len (Defined m) = go (nat_lt m.body.0 len) refl
  where
    go : (b : Bool) → nat_lt m.body.0 len ≡ b → cond b (suc m.body.0) 0 ≤ len
    go true e = omega (arith, ltb-true m.body.0 len e)
    go false e = omega arith

needed_most : (len : ℕ) (fs : List Function) → terms_needed len fs ≤ len
needed_most len [] = omega arith
needed_most len (f ∷ fs) = omega (arith, body_most len f, needed_most len fs)

-- each definition that a name stands for has its body among them
needed_at : (len : ℕ) (ns : List Name) (fs : List Function) (n : Name) (f : Function) → look_up (newest ns fs) n ≡ Some f → body_end len f ≤ terms_needed len fs
needed_at len [] fs n f e = cc
needed_at len (m ∷ ns) [] n f e = cc
needed_at len (m ∷ ns) (g ∷ fs) n f e = go (look_up (newest ns fs) n) refl (needed_at len ns fs n)
  where
    one : (b : Bool) → cond b (Some g) None ≡ Some f → body_end len f ≤ max (body_end len g) (terms_needed len fs)
    one true q = let same : g ≡ f = cc in subst (λ h. body_end len h ≤ max (body_end len g) (terms_needed len fs)) same (omega arith)
    one false q = cc

    go : (o : Option Function) → look_up (newest ns fs) n ≡ o → ((h : Function) → look_up (newest ns fs) n ≡ Some h → body_end len h ≤ terms_needed len fs) → body_end len f ≤ max (body_end len g) (terms_needed len fs)
    go (Some h) q rec = let found : Some h ≡ Some f = sym (look_before (newest ns fs) ((m, g) ∷ []) n h q) ∙ e in let low = rec f (q ∙ found) in omega (arith, low)
    go None q rec = one (bytes_eq m n) (sym (look_after (newest ns fs) ((m, g) ∷ []) n q) ∙ e)

body_below : (len : ℕ) (m : Macro) → m.body.0 < len → body_end len (Defined m) ≡ suc m.body.0
body_below len m lt = ap (λ (b : Bool). cond b (suc m.body.0) 0) (lt-ltb m.body.0 len lt)

-- a table with its first terms alone
abbrev pub first_terms : ℕ → TableView → TableView
first_terms n t = record t { terms = take n t.terms }

module _ (n : ℕ) (t : TableView) where
  first_extends : Extends (first_terms n t) t
  first_extends = record {
    more_sorts = [];
    sorts = sym (append-nil t.sorts);
    more_symbols = [];
    symbols = sym (append-nil t.symbols);
    more_terms = drop n t.terms;
    terms = sym (take-append-drop n t.terms);
  }

  -- what its terms use is declared
  uses_first : UsesDeclared t → UsesDeclared (first_terms n t)
  uses_first u = record {
    symbols = u.symbols;
    heads = λ h ts c. u.heads h ts (subst (λ l. Contains l (app h ts)) (take-append-drop n t.terms) (Contains-append_left (take n t.terms) (drop n t.terms) (app h ts) c));
  }

  -- a sort means what it meant
  sort_first : (s : Option TableSort) (r : Option Sort) → SortMeans t s r → SortMeans (first_terms n t) s r
  sort_first None None h = tt
  sort_first None (Some r) h = h
  sort_first (Some s) None h = h
  sort_first (Some s) (Some r) h = h

  -- and so does a function whose body is among them
  function_first : (f : Option Function) (k : Option Known) → ((m : Macro) → f ≡ Some (Defined m) → m.body.0 < length t.terms → m.body.0 < n) → FunctionMeans t f k → FunctionMeans (first_terms n t) f k
  function_first None None low h = tt
  function_first None (Some k) low h = absurd h
  function_first (Some (Declared id)) None low h = absurd h
  function_first (Some (Defined m)) None low h = absurd h
  function_first (Some (Declared id)) (Some (declared f)) low h = h
  function_first (Some (Declared id)) (Some (defined d)) low h = absurd h
  function_first (Some (Defined m)) (Some (declared f)) low h = absurd h
  function_first (Some (Defined m)) (Some (defined d)) low h =
      let there : IsIn (first_terms n t) m.body = omega (arith, low m refl h.body_there, h.body_there, length-take n t.terms) in record {
        parameters_there = h.parameters_there;
        parameters = h.parameters;
        result_there = h.result_there;
        result = h.result;
        body_there = there;
        body = sym (term_at-kept (first_terms n t) t first_extends m.body there) ∙ h.body;
      }

  -- so a scope represents what it did, where the bodies of its definitions are among them
  scope_first : (v : ScopeView) (g : Signature) → terms_needed (length t.terms) v.functions ≤ n → ScopeMeans t v g → ScopeMeans (first_terms n t) v g
  scope_first v g le h = record {
    sorts = λ x. sort_first (sort_under v x) (sort_as g x) (h.sorts x);
    functions = λ x. function_first (function_under v x) (known_as g x) (low x) (h.functions x);
    count = h.count;
    sorted = h.sorted;
  }
    where
      low : (x : Name) (m : Macro) → function_under v x ≡ Some (Defined m) → m.body.0 < length t.terms → m.body.0 < n
      low x m e lt = omega (arith, needed_at (length t.terms) v.names v.functions x (Defined m) e, body_below (length t.terms) m lt, le)

module _ (m : Mark) (c : Contents) where
  -- so much of the table
  abbrev kept_terms : ℕ
  kept_terms = max m.terms (terms_needed (length c.table.terms) c.scope.functions)

  table_left : (cut_to (global_mark m c) c).table ≡ first_terms kept_terms c.table
  table_left =
      let sorts = take_all (length c.table.sorts) c.table.sorts (omega arith) in
      let symbols = take_all (length c.table.symbols) c.table.symbols (omega arith) in
      λ i. record { sorts = sorts i; symbols = symbols i; terms = take kept_terms c.table.terms }

  pub uses_left : UsesDeclared c.table → UsesDeclared (cut_to (global_mark m c) c).table
  uses_left u = subst UsesDeclared (sym table_left) (uses_first kept_terms c.table u)

  -- and all names
  abbrev left : Contents
  left = record {
    table = first_terms kept_terms c.table;
    scope = c.scope;
    assertions = record { ids = take m.assertions c.assertions.ids; written = take m.assertions c.assertions.written };
  }

  left_is : IsScope c.scope.sort_names c.scope.sorts c.scope.names c.scope.functions → cut_to (global_mark m c) c ≡ left
  left_is long =
      let sort_names = take_all (length c.scope.sort_names) c.scope.sort_names (omega arith) in
      let sorts = take_all (length c.scope.sort_names) c.scope.sorts (omega (arith, long.each_sort)) in
      let names = take_all (length c.scope.names) c.scope.names (omega arith) in
      let functions = take_all (length c.scope.names) c.scope.functions (omega (arith, long.each_function)) in
      λ i. record {
        table = table_left i;
        scope = record { sort_names = sort_names i; sorts = sorts i; names = names i; functions = functions i };
        assertions = record { ids = take m.assertions c.assertions.ids; written = take m.assertions c.assertions.written };
      }

  module _ (g : Signature) (all front more : List Assertion) (split : all ≡ front ++ more) (h : States c g all) (count : length front ≡ m.assertions) (inside : All (λ (id : TermId). id.0 < m.terms) (take m.assertions c.assertions.ids)) (within : m.terms ≤ length c.table.terms) where
    first_of : {A : Type 0} (f : Assertion → A) (xs : List A) → xs ≡ map f all → take m.assertions xs ≡ map f front
    first_of f xs e =
        ap (take m.assertions) (e ∙ ap (map f) split ∙ map-append f front more)
        ∙ take_at (map f front) (map f more) m.assertions (length-map front f ∙ count)

    there : AreIn (first_terms kept_terms c.table) (take m.assertions c.assertions.ids)
    there =
        All-weaker (λ (id : TermId). id.0 < m.terms) (IsIn (first_terms kept_terms c.table)) (λ id lt. omega (arith, lt, within, length-take kept_terms c.table.terms)) (take m.assertions c.assertions.ids) inside

    left_stated : States left g front
    left_stated =
        let t = first_terms kept_terms c.table in record {
          scope = scope_first kept_terms c.table c.scope g (omega arith) h.scope;
          symbols = h.symbols;
          sorts = h.sorts;
          inside = there;
          terms = sym (clause_at-kept t c.table (first_extends kept_terms c.table) (take m.assertions c.assertions.ids) there)
              ∙ sym (take-map (term_at c.table) m.assertions c.assertions.ids)
              ∙ first_of (λ (a : Assertion). a.term) (clause_at c.table c.assertions.ids) h.terms;
          written = first_of (λ (a : Assertion). as_written a.text) c.assertions.written h.written;
        }

    -- so names and the first assertions are stated
    pub stated_left : IsScope c.scope.sort_names c.scope.sorts c.scope.names c.scope.functions → States (cut_to (global_mark m c) c) g front
    stated_left long = subst (λ (x : Contents). States x g front) (sym (left_is long)) left_stated

  -- there is no more of any list
  pub global_within : IsWithin m (mark_of c) → IsWithin (global_mark m c) (mark_of c)
  global_within w = record {
    sort_names = omega arith;
    names = omega arith;
    sorts = omega arith;
    symbols = omega arith;
    terms = omega (arith, w.terms, needed_most (length c.table.terms) c.scope.functions);
    assertions = w.assertions;
  }

  -- and all that a lower mark has
  pub within_global : (l : Mark) → IsWithin l m → IsWithin m (mark_of c) → IsWithin l (global_mark m c)
  within_global l low w = record {
    sort_names = omega (arith, low.sort_names, w.sort_names);
    names = omega (arith, low.names, w.names);
    sorts = omega (arith, low.sorts, w.sorts);
    symbols = omega (arith, low.symbols, w.symbols);
    terms = omega (arith, low.terms);
    assertions = low.assertions;
  }

-- nothing is there up to no mark
none_within : (c : Contents) → IsWithin no_mark (mark_of c)
none_within c = record { sort_names = omega arith; names = omega arith; sorts = omega arith; symbols = omega arith; terms = omega arith; assertions = omega arith }

module _ (limit : ℕ) (x : OverTable) (s : Stack) (h : IsStack limit x s) (long : IsScope x.stack.scope.sort_names x.stack.scope.sorts x.stack.scope.names x.stack.scope.functions) (on : s.options.global_declarations ≡ true) where
  -- levels less
  pub global_closed : (k : ℕ) → k < length x.stack.marks → IsStack limit (cut_back k (global_mark (mark_at x.stack.marks k) (contents x)) x) (up_to_level k s)
  global_closed k lt =
      let c : Contents = contents x in
      let m = mark_at x.stack.marks k in
      let front = assertions_up_to k s in
      let asserted = h.marked.asserted k lt in
      let within = h.marked.within k lt in record {
        limit_is = h.limit_is;
        states = subst (λ g. States (cut_to (global_mark m c) c) g (assertions_of (up_to_level k s))) (sym (global_names k s h.marked.leveled on))
            (stated_left m c (signature_of s) (assertions_of s) (assertions_of (up_to_level k s)) front.0 front.1 h.states asserted.count asserted.inside within.terms long);
        marked = marks_closed x.stack.marks c s h.marked k lt (global_mark m c) (global_within m c within) (λ j less. within_global m c (mark_at x.stack.marks j) (h.marked.rising j k less lt) within);
        options = h.options;
        started = h.started;
      }

  -- no level, and nothing asserted
  pub global_left : IsStack limit (cut_back 0 (global_mark no_mark (contents x)) x) (emptied s)
  global_left =
      let c : Contents = contents x in record {
        limit_is = h.limit_is;
        states = subst (λ g. States (cut_to (global_mark no_mark c) c) g []) (sym (global_emptied s h.marked.leveled on))
            (stated_left no_mark c (signature_of s) (assertions_of s) [] (assertions_of s) refl h.states refl (All-nil (λ (id : TermId). id.0 < 0)) (omega arith) long);
        marked = none_marked (cut_to (global_mark no_mark c) c) (emptied s) (leveled_emptied s h.marked.leveled) refl;
        options = h.options;
        started = h.started;
      }

-- levels less, in both cases
pub closed_stack : (limit : ℕ) (x : OverTable) (s : Stack) (k : ℕ) → IsStack limit x s → IsScope x.stack.scope.sort_names x.stack.scope.sorts x.stack.scope.names x.stack.scope.functions → k < length x.stack.marks → IsStack limit (closed_to k x) (up_to_level k s)
closed_stack limit x s k h long lt = go x.stack.options.global_declarations (ap (λ o. o.global_declarations) h.options)
  where
    c : Contents
    c = contents x

    m : Mark
    m = mark_at x.stack.marks k

    go : (b : Bool) → b ≡ s.options.global_declarations → IsStack limit (cut_back k (closing_mark b m c) x) (up_to_level k s)
    go true on = global_closed limit x s h long (sym on) k lt
    go false off = record {
      limit_is = h.limit_is;
      states = (h.marked.below (sym off) k lt).states;
      marked = marks_closed x.stack.marks c s h.marked k lt m (h.marked.within k lt) (λ j less. h.marked.rising j k less lt);
      options = h.options;
      started = h.started;
    }

-- what is used up to there is declared
pub closed_uses : (limit : ℕ) (x : OverTable) (s : Stack) (k : ℕ) → IsStack limit x s → UsesDeclared x.table → k < length x.stack.marks → UsesDeclared (cut_to (level_mark k x) (contents x)).table
closed_uses limit x s k h uses lt = go x.stack.options.global_declarations (ap (λ o. o.global_declarations) h.options)
  where
    go : (b : Bool) → b ≡ s.options.global_declarations → UsesDeclared (cut_to (closing_mark b (mark_at x.stack.marks k) (contents x)) (contents x)).table
    go true on = uses_left (mark_at x.stack.marks k) (contents x) uses
    go false off = (h.marked.below (sym off) k lt).uses
