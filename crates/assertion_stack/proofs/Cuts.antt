-- What a cut to a mark leaves, and marks of levels that are opened and closed.
use Rattle.std.proofs.Common.{◌≡◌, ℕ, ◌-◌, ◌≤◌, ◌<◌, Bool, List, [], ◌++◌, length, take, replicate, refl, sym, ap, ◌∙◌, subst, ⊎_elim, inl, inr, ◌⊎◌, true, false, not, All, arith, length-append}
use Rattle.std.proofs.lemmas.Bool.{cases_lt}
use Rattle.std.proofs.lemmas.List.{append-nil, take-append-le, take_all, take-take, length-take-le, length-replicate, length-map, get_or-take, get_or_append_left, get_or-append_right, get_or-replicate}
use Rattle.spec_commands.specs.Stack.{Assertion, Stack, Options, Key, success_key, models_key, proofs_key, assertions_key, cores_key, assumptions_key, global_key, signature_of, assertions_of, levels_open, begun, with_levels, up_to_level, with_option, may_set}
use Rattle.spec_commands.specs.Kept.{AreLeveled}
use Rattle.spec_commands.proofs.Levels.{up_to_twice, up_to_pushed, same_up_to_pushed, open_up_to, open_pushed, leveled_pushed, leveled_up_to, leveled_begun, leveled_option, not_true}
use Rattle.term_core.specs.declared.ids.TermId.{TermId}
use Rattle.term_core.specs.Tables.{TableView, term_at, Extends}
use Rattle.term_core.specs.Uses.{UsesDeclared}
use Rattle.term_reader.specs.Scopes.{IsScope}
use Rattle.assertion_stack.specs.declared.marks.Mark.{Mark}
use Rattle.assertion_stack.specs.Levels.{Contents, States, mark_of, no_mark, mark_at, cut_to, IsWithin, HasLevel, HasAssertions, AreMarked}

-- one list is the beginning of another
abbrev pub Begins : {A : Type 0} → List A → List A → Type 0
Begins {A} xs ys = (more : List A) × (ys ≡ xs ++ more)

-- a list is its own beginning
pub itself : {A : Type 0} (xs : List A) → Begins xs xs
itself xs = ([], sym (append-nil xs))

cut_grown : {A : Type 0} (n : ℕ) (xs ys : List A) → n ≤ length xs → Begins xs ys → take n ys ≡ take n xs
cut_grown n xs ys le b = ap (take n) b.1 ∙ take-append-le n xs b.0 le

long_grown : {A : Type 0} (xs ys : List A) → Begins xs ys → length xs ≤ length ys
long_grown xs ys b = omega (arith, ap length b.1, length-append xs b.0)

-- Lists that go together are as long as each other.
pub record AreEven (c : Contents) : Type 0 where
  pub scope : IsScope c.scope.sort_names c.scope.sorts c.scope.names c.scope.functions
  pub written : length c.assertions.written ≡ length c.assertions.ids

-- Each list is the beginning of one that is there later.
pub record HasMore (c d : Contents) : Type 0 where
  pub table : Extends c.table d.table
  pub sort_names : Begins c.scope.sort_names d.scope.sort_names
  pub sorts : Begins c.scope.sorts d.scope.sorts
  pub names : Begins c.scope.names d.scope.names
  pub functions : Begins c.scope.functions d.scope.functions
  pub ids : Begins c.assertions.ids d.assertions.ids
  pub written : Begins c.assertions.written d.assertions.written

-- What there was up to a mark is there still.
pub record Grows (c d : Contents) : Type 0 where
  pub within : IsWithin (mark_of c) (mark_of d)
  pub cuts : (m : Mark) → IsWithin m (mark_of c) → cut_to m d ≡ cut_to m c

table_cut : (m : Mark) (c : Contents) (t : TableView) → Extends c.table t → IsWithin m (mark_of c) → (cut_to m (record c { table = t })).table ≡ (cut_to m c).table
table_cut m c t e w =
    let sorts = cut_grown m.sorts c.table.sorts t.sorts w.sorts (e.more_sorts, e.sorts) in
    let symbols = cut_grown m.symbols c.table.symbols t.symbols w.symbols (e.more_symbols, e.symbols) in
    let terms = cut_grown m.terms c.table.terms t.terms w.terms (e.more_terms, e.terms) in
    λ i. record { sorts = sorts i; symbols = symbols i; terms = terms i }

-- a table that grows
pub table_grows : (c : Contents) (t : TableView) → Extends c.table t → Grows c (record c { table = t })
table_grows c t e = record {
  within = record {
    sort_names = omega arith;
    names = omega arith;
    sorts = long_grown c.table.sorts t.sorts (e.more_sorts, e.sorts);
    symbols = long_grown c.table.symbols t.symbols (e.more_symbols, e.symbols);
    terms = long_grown c.table.terms t.terms (e.more_terms, e.terms);
    assertions = omega arith;
  };
  cuts = λ m w. let table = table_cut m c t e w in λ i. record (cut_to m c) { table = table i };
}

-- and names and assertions that do
pub grows : (c d : Contents) → AreEven c → HasMore c d → Grows c d
grows c d even more = record {
  within = record {
    sort_names = long_grown c.scope.sort_names d.scope.sort_names more.sort_names;
    names = long_grown c.scope.names d.scope.names more.names;
    sorts = long_grown c.table.sorts d.table.sorts (more.table.more_sorts, more.table.sorts);
    symbols = long_grown c.table.symbols d.table.symbols (more.table.more_symbols, more.table.symbols);
    terms = long_grown c.table.terms d.table.terms (more.table.more_terms, more.table.terms);
    assertions = long_grown c.assertions.ids d.assertions.ids more.ids;
  };
  cuts = λ m w.
      let table = table_cut m c d.table more.table w in
      let sort_names = cut_grown m.sort_names c.scope.sort_names d.scope.sort_names w.sort_names more.sort_names in
      let sorts = cut_grown m.sort_names c.scope.sorts d.scope.sorts (omega (arith, w.sort_names, even.scope.each_sort)) more.sorts in
      let names = cut_grown m.names c.scope.names d.scope.names w.names more.names in
      let functions = cut_grown m.names c.scope.functions d.scope.functions (omega (arith, w.names, even.scope.each_function)) more.functions in
      let ids = cut_grown m.assertions c.assertions.ids d.assertions.ids w.assertions more.ids in
      let written = cut_grown m.assertions c.assertions.written d.assertions.written (omega (arith, w.assertions, even.written)) more.written in
      λ i. record {
        table = table i;
        scope = record { sort_names = sort_names i; sorts = sorts i; names = names i; functions = functions i };
        assertions = record { ids = ids i; written = written i };
      };
}

-- a cut to all that there is
pub cut_all : (c : Contents) → AreEven c → cut_to (mark_of c) c ≡ c
cut_all c even =
    let sorts = take_all (length c.table.sorts) c.table.sorts (omega arith) in
    let symbols = take_all (length c.table.symbols) c.table.symbols (omega arith) in
    let terms = take_all (length c.table.terms) c.table.terms (omega arith) in
    let sort_names = take_all (length c.scope.sort_names) c.scope.sort_names (omega arith) in
    let named_sorts = take_all (length c.scope.sort_names) c.scope.sorts (omega (arith, even.scope.each_sort)) in
    let names = take_all (length c.scope.names) c.scope.names (omega arith) in
    let functions = take_all (length c.scope.names) c.scope.functions (omega (arith, even.scope.each_function)) in
    let ids = take_all (length c.assertions.ids) c.assertions.ids (omega arith) in
    let written = take_all (length c.assertions.ids) c.assertions.written (omega (arith, even.written)) in
    λ i. record {
      table = record { sorts = sorts i; symbols = symbols i; terms = terms i };
      scope = record { sort_names = sort_names i; sorts = named_sorts i; names = names i; functions = functions i };
      assertions = record { ids = ids i; written = written i };
    }

-- a cut after a cut to a later mark
pub cut_twice : (m n : Mark) (c : Contents) → IsWithin m n → cut_to m (cut_to n c) ≡ cut_to m c
cut_twice m n c w =
    let sorts = take-take m.sorts n.sorts c.table.sorts w.sorts in
    let symbols = take-take m.symbols n.symbols c.table.symbols w.symbols in
    let terms = take-take m.terms n.terms c.table.terms w.terms in
    let sort_names = take-take m.sort_names n.sort_names c.scope.sort_names w.sort_names in
    let named_sorts = take-take m.sort_names n.sort_names c.scope.sorts w.sort_names in
    let names = take-take m.names n.names c.scope.names w.names in
    let functions = take-take m.names n.names c.scope.functions w.names in
    let ids = take-take m.assertions n.assertions c.assertions.ids w.assertions in
    let written = take-take m.assertions n.assertions c.assertions.written w.assertions in
    λ i. record {
      table = record { sorts = sorts i; symbols = symbols i; terms = terms i };
      scope = record { sort_names = sort_names i; sorts = named_sorts i; names = names i; functions = functions i };
      assertions = record { ids = ids i; written = written i };
    }

-- how much a cut leaves
pub mark_cut : (n : Mark) (c : Contents) → IsWithin n (mark_of c) → mark_of (cut_to n c) ≡ n
mark_cut n c w =
    let sort_names = length-take-le n.sort_names c.scope.sort_names w.sort_names in
    let names = length-take-le n.names c.scope.names w.names in
    let sorts = length-take-le n.sorts c.table.sorts w.sorts in
    let symbols = length-take-le n.symbols c.table.symbols w.symbols in
    let terms = length-take-le n.terms c.table.terms w.terms in
    let assertions = length-take-le n.assertions c.assertions.ids w.assertions in
    λ i. record { sort_names = sort_names i; names = names i; sorts = sorts i; symbols = symbols i; terms = terms i; assertions = assertions i }

within_itself : (m : Mark) → IsWithin m m
within_itself m = record { sort_names = omega arith; names = omega arith; sorts = omega arith; symbols = omega arith; terms = omega arith; assertions = omega arith }

within_both : (k m n : Mark) → IsWithin k m → IsWithin m n → IsWithin k n
within_both k m n a b = record {
  sort_names = omega (arith, a.sort_names, b.sort_names);
  names = omega (arith, a.names, b.names);
  sorts = omega (arith, a.sorts, b.sorts);
  symbols = omega (arith, a.symbols, b.symbols);
  terms = omega (arith, a.terms, b.terms);
  assertions = omega (arith, a.assertions, b.assertions);
}

-- the same contents at the same names and assertions
level_kept : (m : Mark) (c d : Contents) (s t : Stack) → cut_to m d ≡ cut_to m c → signature_of t ≡ signature_of s → assertions_of t ≡ assertions_of s → HasLevel m c s → HasLevel m d t
level_kept m c d s t cut names assertions h = record {
  uses = subst (λ (x : Contents). UsesDeclared x.table) (sym cut) h.uses;
  states = subst (λ (x : Contents). States x (signature_of t) (assertions_of t)) (sym cut)
      (subst (λ g. States (cut_to m c) g (assertions_of t)) (sym names) (subst (λ a. States (cut_to m c) (signature_of s) a) (sym assertions) h.states));
}

-- the same assertions up to a mark
asserted_kept : (m : Mark) (c d : Contents) (s t : Stack) → take m.assertions d.assertions.ids ≡ take m.assertions c.assertions.ids → assertions_of t ≡ assertions_of s → HasAssertions m c s → HasAssertions m d t
asserted_kept m c d s t ids same h = record { count = ap length same ∙ h.count; inside = subst (All (λ (id : TermId). id.0 < m.terms)) (sym ids) h.inside }

module _ (marks : List Mark) (c : Contents) (s : Stack) (h : AreMarked marks c s) where
  -- what is stated at the last level changes no mark, nor do names that are global
  pub marks_grown : (d : Contents) (t : Stack) → Grows c d → AreLeveled t → levels_open t.levels ≡ levels_open s.levels → t.options.global_declarations ≡ s.options.global_declarations → ((k : ℕ) → k < levels_open s.levels → assertions_of (up_to_level k t) ≡ assertions_of (up_to_level k s))
      → (s.options.global_declarations ≡ false → (k : ℕ) → k < levels_open s.levels → signature_of (up_to_level k t) ≡ signature_of (up_to_level k s)) → AreMarked marks d t
  marks_grown d t more leveled same option assertions names = record {
    leveled = leveled;
    count = h.count ∙ sym same;
    below = λ off k lt.
        let local = sym option ∙ off in
        let low : k < levels_open s.levels = omega (arith, lt, h.count) in
        level_kept (mark_at marks k) c d (up_to_level k s) (up_to_level k t) (more.cuts (mark_at marks k) (h.within k lt)) (names local k low) (assertions k low) (h.below local k lt);
    asserted = λ k lt. asserted_kept (mark_at marks k) c d (up_to_level k s) (up_to_level k t) (ap (λ (x : Contents). x.assertions.ids) (more.cuts (mark_at marks k) (h.within k lt))) (assertions k (omega (arith, lt, h.count))) (h.asserted k lt);
    within = λ k lt. within_both (mark_at marks k) (mark_of c) (mark_of d) (h.within k lt) more.within;
    rising = h.rising;
  }

  -- nor do options, and whether a command has begun it
  marks_same : (o : Options) (b : Bool) → AreLeveled (record s { options = o; started = b }) → (o.global_declarations ≡ false → (s.options.global_declarations ≡ false) ⊎ (levels_open s.levels ≡ 0)) → AreMarked marks c (record s { options = o; started = b })
  marks_same o b leveled local = record {
    leveled = leveled;
    count = h.count;
    below = λ off k lt.
        ⊎_elim (λ was. level_kept (mark_at marks k) c c (up_to_level k s) (up_to_level k (record s { options = o; started = b })) refl refl refl (h.below was k lt))
        (λ none. absurd (omega (arith, lt, h.count, none))) (local off);
    asserted = λ k lt. asserted_kept (mark_at marks k) c c (up_to_level k s) (up_to_level k (record s { options = o; started = b })) refl refl (h.asserted k lt);
    within = h.within;
    rising = h.rising;
  }

  pub marks_begun : AreMarked marks c (begun s)
  marks_begun = marks_same s.options true (leveled_begun s h.leveled) (λ off. inl off)

  pub marks_set : (k : Key) (b : Bool) → may_set k s ≡ true → AreMarked marks c (record s { options = with_option k b s.options })
  marks_set k b may = marks_same (with_option k b s.options) s.started (leveled_option s k b may h.leveled) (local k may)
    where
      none : not s.started ≡ true → levels_open s.levels ≡ 0
      none e = (h.leveled.early (not_true s.started e)).1

      local : (k : Key) → may_set k s ≡ true → (with_option k b s.options).global_declarations ≡ false → (s.options.global_declarations ≡ false) ⊎ (levels_open s.levels ≡ 0)
      local success_key e off = inl off
      local models_key e off = inl off
      local proofs_key e off = inl off
      local assertions_key e off = inl off
      local cores_key e off = inl off
      local assumptions_key e off = inl off
      local global_key e off = inr (none e)

  -- levels that are closed, where so much stays
  pub marks_closed : (k : ℕ) → k < length marks → (m : Mark) → IsWithin m (mark_of c) → ((j : ℕ) → j < k → IsWithin (mark_at marks j) m) → AreMarked (take k marks) (cut_to m c) (up_to_level k s)
  marks_closed k lt m less each =
      let first = h.leveled.first in
      let long : length (take k marks) ≡ k = length-take-le k marks (omega (arith, lt)) in
      let at : (j : ℕ) → j < k → mark_at (take k marks) j ≡ mark_at marks j = λ j lower. get_or-take k marks j no_mark lower in
      let low : (j : ℕ) → j < length (take k marks) → j < k = λ j lower. omega (arith, lower, long) in record {
        leveled = leveled_up_to k s h.leveled;
        count = long ∙ sym (open_up_to k s first (omega (arith, lt, h.count)));
        below = λ off j lower.
            let under = low j lower in
            let e = up_to_twice j k s (omega (arith, under)) in
            subst (λ n. HasLevel n (cut_to m c) (up_to_level j (up_to_level k s))) (sym (at j under))
            (level_kept (mark_at marks j) c (cut_to m c) (up_to_level j s) (up_to_level j (up_to_level k s)) (cut_twice (mark_at marks j) m c (each j under)) (ap signature_of e) (ap assertions_of e) (h.below off j (omega (arith, under, lt))));
        asserted = λ j lower.
            let under = low j lower in
            let e = up_to_twice j k s (omega (arith, under)) in
            subst (λ n. HasAssertions n (cut_to m c) (up_to_level j (up_to_level k s))) (sym (at j under))
            (asserted_kept (mark_at marks j) c (cut_to m c) (up_to_level j s) (up_to_level j (up_to_level k s)) (ap (λ (x : Contents). x.assertions.ids) (cut_twice (mark_at marks j) m c (each j under))) (ap assertions_of e) (h.asserted j (omega (arith, under, lt))));
        within = λ j lower.
            let under = low j lower in
            subst (λ n. IsWithin n (mark_of (cut_to m c))) (sym (at j under)) (subst (IsWithin (mark_at marks j)) (sym (mark_cut m c less)) (each j under));
        rising = λ i j before lower.
            let under = low j lower in
            subst (λ n. IsWithin n (mark_at (take k marks) j)) (sym (at i (omega (arith, before, under))))
            (subst (IsWithin (mark_at marks i)) (sym (at j under)) (h.rising i j before (omega (arith, under, lt))));
      }

  -- levels that are opened, each with a mark of what there is now
  abbrev pub opened : ℕ → List Mark
  opened n = marks ++ replicate n (mark_of c)

  module _ (n : ℕ) (even : AreEven c) (uses : UsesDeclared c.table) (states : States c (signature_of s) (assertions_of s)) where
    old_mark : (k : ℕ) → k < length marks → mark_at (opened n) k ≡ mark_at marks k
    old_mark k lt = get_or_append_left marks (replicate n (mark_of c)) no_mark k lt

    new_mark : (k : ℕ) → length marks ≤ k → k < length (opened n) → mark_at (opened n) k ≡ mark_of c
    new_mark k le lt =
        get_or-append_right marks (replicate n (mark_of c)) (length marks) k no_mark refl le
        ∙ get_or-replicate n (k - length marks) (mark_of c) no_mark (omega (arith, le, lt, length-append marks (replicate n (mark_of c)), length-replicate n (mark_of c)))

    at_new : (k : ℕ) → length marks ≤ k → HasLevel (mark_of c) c (up_to_level k (with_levels n s))
    at_new k le =
        let same = same_up_to_pushed n k s (omega (arith, le, h.count)) h.leveled in
        let whole = cut_all c even in
        level_kept (mark_of c) c c s (up_to_level k (with_levels n s)) refl same.0 same.1
        (record {
          uses = subst (λ (x : Contents). UsesDeclared x.table) (sym whole) uses;
          states = subst (λ (x : Contents). States x (signature_of s) (assertions_of s)) (sym whole) states;
        })

    assertions_new : (k : ℕ) → length marks ≤ k → HasAssertions (mark_of c) c (up_to_level k (with_levels n s))
    assertions_new k le =
        let same = same_up_to_pushed n k s (omega (arith, le, h.count)) h.leveled in
        record {
          count = ap length same.1 ∙ sym (length-map (assertions_of s) (λ (a : Assertion). a.term)) ∙ sym (ap length states.terms) ∙ length-map c.assertions.ids (term_at c.table);
          inside = subst (All (λ (id : TermId). id.0 < length c.table.terms)) (sym (take_all (length c.assertions.ids) c.assertions.ids (omega arith))) states.inside;
        }

    pub marks_opened : s.started ≡ true → AreMarked (opened n) c (with_levels n s)
    marks_opened on = record {
      leveled = leveled_pushed n s on h.leveled;
      count = omega (arith, length-append marks (replicate n (mark_of c)), length-replicate n (mark_of c), h.count, open_pushed n s h.leveled.first);
      below = below;
      asserted = asserted;
      within = within;
      rising = rising;
    }
      where
        asserted : (k : ℕ) → k < length (opened n) → HasAssertions (mark_at (opened n) k) c (up_to_level k (with_levels n s))
        asserted k lt = ⊎_elim old new (cases_lt k (length marks))
          where
            old : k < length marks → HasAssertions (mark_at (opened n) k) c (up_to_level k (with_levels n s))
            old less =
                let e = up_to_pushed n k s h.leveled.first (omega (arith, less, h.count)) h.leveled in
                subst (λ m. HasAssertions m c (up_to_level k (with_levels n s))) (sym (old_mark k less))
                (asserted_kept (mark_at marks k) c c (up_to_level k s) (up_to_level k (with_levels n s)) refl (ap assertions_of e) (h.asserted k less))

            new : length marks ≤ k → HasAssertions (mark_at (opened n) k) c (up_to_level k (with_levels n s))
            new le = subst (λ m. HasAssertions m c (up_to_level k (with_levels n s))) (sym (new_mark k le lt)) (assertions_new k le)

        below : s.options.global_declarations ≡ false → (k : ℕ) → k < length (opened n) → HasLevel (mark_at (opened n) k) c (up_to_level k (with_levels n s))
        below off k lt = ⊎_elim old new (cases_lt k (length marks))
          where
            old : k < length marks → HasLevel (mark_at (opened n) k) c (up_to_level k (with_levels n s))
            old less =
                let e = up_to_pushed n k s h.leveled.first (omega (arith, less, h.count)) h.leveled in
                subst (λ m. HasLevel m c (up_to_level k (with_levels n s))) (sym (old_mark k less))
                (level_kept (mark_at marks k) c c (up_to_level k s) (up_to_level k (with_levels n s)) refl (ap signature_of e) (ap assertions_of e) (h.below off k less))

            new : length marks ≤ k → HasLevel (mark_at (opened n) k) c (up_to_level k (with_levels n s))
            new le = subst (λ m. HasLevel m c (up_to_level k (with_levels n s))) (sym (new_mark k le lt)) (at_new k le)

        within : (k : ℕ) → k < length (opened n) → IsWithin (mark_at (opened n) k) (mark_of c)
        within k lt =
            ⊎_elim (λ less. subst (λ m. IsWithin m (mark_of c)) (sym (old_mark k less)) (h.within k less)) (λ le. subst (λ m. IsWithin m (mark_of c)) (sym (new_mark k le lt)) (within_itself (mark_of c)))
            (cases_lt k (length marks))

        rising : (j k : ℕ) → j < k → k < length (opened n) → IsWithin (mark_at (opened n) j) (mark_at (opened n) k)
        rising j k before lt = ⊎_elim old new (cases_lt k (length marks))
          where
            old : k < length marks → IsWithin (mark_at (opened n) j) (mark_at (opened n) k)
            old less = subst (λ m. IsWithin m (mark_at (opened n) k)) (sym (old_mark j (omega (arith, before, less)))) (subst (IsWithin (mark_at marks j)) (sym (old_mark k less)) (h.rising j k before less))

            new : length marks ≤ k → IsWithin (mark_at (opened n) j) (mark_at (opened n) k)
            new le = subst (IsWithin (mark_at (opened n) j)) (sym (new_mark k le lt)) (within j (omega (arith, before, lt)))

-- no level is open
pub none_marked : (c : Contents) (s : Stack) → AreLeveled s → levels_open s.levels ≡ 0 → AreMarked [] c s
none_marked c s leveled none = record {
  leveled = leveled;
  count = sym none;
  below = λ off k lt. absurd (omega (arith, lt));
  asserted = λ k lt. absurd (omega (arith, lt));
  within = λ k lt. absurd (omega (arith, lt));
  rising = λ j k before lt. absurd (omega (arith, lt));
}
