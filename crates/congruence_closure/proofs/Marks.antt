-- What was so at each mark is so still.
use Rattle.std.proofs.Common.{◌≡◌, ℕ, suc, ◌+◌, ◌-◌, ◌<◌, ◌≤◌, Bool, true, List, [], ◌∷◌, ◌++◌, length, get_or, take, map, inl, inr, ◌⊎◌, refl, sym, ap, ◌∙◌, subst, arith}
use Rattle.std.proofs.lemmas.Bool.{cases_lt}
use Rattle.std.proofs.lemmas.List.{append-nil, length-append, length-map, length-take-le, length_push, take_all, take-take, take-append-le, take-map, take_more, same_from_push, get_or-map, get_or-take, get_or_default, get_or_append_left, get_or_push, map_push}
use Rattle.term_core.specs.declared.ids.Lit.{Lit}
use Rattle.explain_forest.specs.declared.types.Edge.{Edge}
use Rattle.explain_forest.specs.Forest.{ForestState, Linked}
use Rattle.congruence_relation.specs.Relation.{Application, Facts}
use Rattle.congruence_closure.specs.declared.parts.Extent.{Extent}
use Rattle.congruence_closure.specs.declared.closure.ClosureMark.{ClosureMark}
use Rattle.congruence_closure.specs.Closure.{ClosureState}
use Rattle.congruence_closure.specs.Keys.{Keys, oldest, AreKeys}
use Rattle.congruence_closure.specs.State.{PartsState, Left, PartsView, PartsFit, IsSaturated, with_listed, with_held, extent_of, facts_at, state_at}
use Rattle.congruence_closure.specs.Changes.{Changes, KeepsFacts, MarksState, no_forest, numbers_back, forest_back, parts_back, TermsFit}
use Rattle.congruence_closure.specs.Whole.{marked, IsUpTo, IsMark, no_extent, extent_at, ClosureFits}
use Rattle.congruence_closure.proofs.Denials.{places}

-- Parts come after others: what there was is there still.
pub record Follows (p q : PartsView) : Type 0 where
  pub facts : (e : Extent) → IsUpTo e (extent_of p.now) → facts_at q.now.facts e ≡ facts_at p.now.facts e
  pub keys : (e : Extent) → IsUpTo e (extent_of p.now) → oldest e.keys q.now.keys ≡ oldest e.keys p.now.keys
  pub numbers : length p.now.numbers ≤ length q.now.numbers
  pub upto : IsUpTo (extent_of p.now) (extent_of q.now)
  pub numbers_marks : q.numbers_marks ≡ p.numbers_marks
  pub edges_marks : q.edges_marks ≡ p.edges_marks

pub follows_goes : (p q : PartsView) → KeepsFacts p q → Follows p q
follows_goes p q g = record {
  facts = λ e le. ap (λ (f : Facts). facts_at f e) g.facts;
  keys = λ e le i. record { shapes = g.shapes e.keys le.keys i; holders = g.holders e.keys le.keys i };
  numbers = omega (arith, g.numbers);
  upto = record {
    listed = omega (arith, ap (λ (f : Facts). length f.listed) g.facts);
    held = omega (arith, ap (λ (f : Facts). length f.held) g.facts);
    keys = g.count;
  };
  numbers_marks = g.numbers_marks;
  edges_marks = g.edges_marks;
}

-- the facts before a change are its first ones
abbrev pub IsPrefix : Facts → Facts → Type 0
IsPrefix f g = (xs : List Application) × (ls : List Lit) × (g ≡ record { listed = f.listed ++ xs; truths = f.truths; held = f.held ++ ls })

pub follows_changes : (p q : PartsView) (g : Facts) → IsPrefix p.now.facts g → Changes p g q → Follows p q
follows_changes p q g (xs, ls, is) c = record {
  facts = λ e le. ap (λ (f : Facts). facts_at f e) (c.facts ∙ is)
      ∙ (λ i. record { listed = take-append-le e.listed p.now.facts.listed xs le.listed i; truths = p.now.facts.truths; held = take-append-le e.held p.now.facts.held ls le.held i });
  keys = λ e le. ap (oldest e.keys) c.keys;
  numbers = c.numbers;
  upto = record {
    listed = omega (arith, ap (λ (f : Facts). length f.listed) (c.facts ∙ is), length-append p.now.facts.listed xs);
    held = omega (arith, ap (λ (f : Facts). length f.held) (c.facts ∙ is), length-append p.now.facts.held ls);
    keys = omega (arith, ap (λ (k : Keys). length k.shapes) c.keys);
  };
  numbers_marks = c.numbers_marks;
  edges_marks = c.edges_marks;
}

pub front_same : (f : Facts) → IsPrefix f f
front_same f = ([], [], λ i. record { listed = sym (append-nil f.listed) i; truths = f.truths; held = sym (append-nil f.held) i })

pub front_listed : (f : Facts) (x : Application) → IsPrefix f (with_listed f x)
front_listed f x = (x ∷ [], [], λ i. record { listed = f.listed ++ x ∷ []; truths = f.truths; held = sym (append-nil f.held) i })

pub front_held : (f : Facts) (l : Lit) → IsPrefix f (with_held f l)
front_held f l = ([], l ∷ [], λ i. record { listed = sym (append-nil f.listed) i; truths = f.truths; held = f.held ++ l ∷ [] })

pub upto_trans : (a b c : Extent) → IsUpTo a b → IsUpTo b c → IsUpTo a c
upto_trans a b c p q = record { listed = omega (arith, p.listed, q.listed); held = omega (arith, p.held, q.held); keys = omega (arith, p.keys, q.keys) }

-- ---- the parts go on

module _ (p q : PartsView) (f : Follows p q) where
  mark_follows : (m : ClosureMark) (numbers : List ℕ) (forest : ForestState) → IsMark p m numbers forest → IsMark q m numbers forest
  mark_follows m numbers forest h =
      let same : state_at q.now m.extent m.pending.items numbers forest.edges ≡ state_at p.now m.extent m.pending.items numbers forest.edges = λ i. record {
        facts = f.facts m.extent h.upto i;
        numbers = numbers;
        edges = forest.edges;
        keys = f.keys m.extent h.upto i;
        left = record { looked = m.extent.looked; given = m.extent.given; pending = m.pending.items };
      } in
      record {
        kept = subst PartsFit (sym same) h.kept;
        saturated = λ e. subst IsSaturated (sym same) (h.saturated e);
        terms = h.terms;
        fits = omega (arith, h.fits, f.numbers);
        upto = upto_trans m.extent (extent_of p.now) (extent_of q.now) h.upto f.upto;
      }

  pub whole_follows : (saturated now : Bool) (marks : List ClosureMark) → ClosureFits p saturated marks → (now ≡ true → IsSaturated q.now) → ClosureFits q now marks
  whole_follows saturated now marks w done = record {
    done = done;
    numbers_count = ap length f.numbers_marks ∙ w.numbers_count;
    edges_count = ap length f.edges_marks ∙ w.edges_count;
    kept = λ j m lt is. subst (λ ns. IsMark q m (get_or ns j []) (get_or q.edges_marks j no_forest)) (sym f.numbers_marks)
        (subst (λ es. IsMark q m (get_or p.numbers_marks j []) (get_or es j no_forest)) (sym f.edges_marks)
        (mark_follows m (get_or p.numbers_marks j []) (get_or p.edges_marks j no_forest) (w.kept j m lt is)));
    ordered = w.ordered;
    grown = λ i j le lt. subst (λ ns. length (get_or ns i []) ≤ length (get_or ns j [])) (sym f.numbers_marks) (w.grown i j le lt);
  }

  pub marks_follow : (saturated : Bool) (marks : List ClosureMark) → ClosureFits p saturated marks → map (marked q.now.facts) marks ≡ map (marked p.now.facts) marks
  marks_follow saturated marks w = same marks (λ k m lt is. (w.kept k m lt is).upto)
    where
      same : (ms : List ClosureMark) → ((k : ℕ) (m : ClosureMark) → k < length ms → get_or ms k m ≡ m → IsUpTo m.extent (extent_of p.now)) → map (marked q.now.facts) ms ≡ map (marked p.now.facts) ms
      same [] le = refl
      same (m ∷ ms) le =
          let first = f.facts m.extent (le 0 m (omega arith) refl) in
          let rest : map (marked q.now.facts) ms ≡ map (marked p.now.facts) ms = same ms (λ k n lt is. le (suc k) n (omega (arith, lt)) is) in
          λ i. record { facts = first i; saturated = m.saturated } ∷ rest i

-- what is saturated is so with more terms
pub saturated_still : (p q : PartsView) → Changes p p.now.facts q → IsSaturated p.now → IsSaturated q.now
saturated_still p q c s = record {
  looked = ap (λ (l : Left). l.looked) c.left ∙ s.looked ∙ ap (λ (f : Facts). length f.listed) (sym c.facts);
  given = ap (λ (l : Left). l.given) c.left ∙ s.given ∙ ap (λ (f : Facts). length f.held) (sym c.facts);
  pending = ap (λ (l : Left). l.pending) c.left ∙ s.pending;
  apart = λ e. s.apart (subst (λ (es : List Edge). Linked es p.now.facts.truths.true_term.0 p.now.facts.truths.false_term.0) c.edges
      (subst (λ (f : Facts). Linked q.now.edges f.truths.true_term.0 f.truths.false_term.0) c.facts e));
}

-- ---- a mark is set

-- all that there is
pub at_extent : (s : PartsState) → AreKeys s.keys → state_at s (extent_of s) s.left.pending s.numbers s.edges ≡ s
at_extent s keys = λ i. record {
  facts = record { listed = take_all (length s.facts.listed) s.facts.listed (omega arith) i; truths = s.facts.truths; held = take_all (length s.facts.held) s.facts.held (omega arith) i };
  numbers = s.numbers;
  edges = s.edges;
  keys = record { shapes = take_all (length s.keys.shapes) s.keys.shapes (omega arith) i; holders = take_all (length s.keys.shapes) s.keys.holders (omega (arith, keys.count)) i };
  left = s.left;
}

module _ (p q : PartsView) (saturated : Bool) (marks : List ClosureMark) (m : ClosureMark) (w : ClosureFits p saturated marks) (h : PartsFit p.now) (terms : length p.now.numbers ≤ p.terms) (set : MarksState p q)
    (extent : m.extent ≡ extent_of p.now) (pending : m.pending.items ≡ p.now.left.pending) (told : m.saturated ≡ saturated) where
  -- the state at the mark is that of now
  state_is : state_at q.now m.extent m.pending.items p.now.numbers p.now.edges ≡ p.now
  state_is = (λ i. state_at (set.now i) (extent i) (pending i) p.now.numbers p.now.edges) ∙ at_extent p.now h.keys.keys

  new_mark : IsMark q m p.now.numbers (record { terms = p.terms; edges = p.now.edges })
  new_mark = record {
    kept = subst PartsFit (sym state_is) h;
    saturated = λ e. subst IsSaturated (sym state_is) (w.done (sym told ∙ e));
    terms = terms;
    fits = omega (arith, ap (λ (s : PartsState). length s.numbers) set.now);
    upto = record {
      listed = omega (arith, ap (λ (e : Extent). e.listed) extent, ap (λ (s : PartsState). length s.facts.listed) set.now);
      held = omega (arith, ap (λ (e : Extent). e.held) extent, ap (λ (s : PartsState). length s.facts.held) set.now);
      keys = omega (arith, ap (λ (e : Extent). e.keys) extent, ap (λ (s : PartsState). length s.keys.shapes) set.now);
    };
  }

  numbers_before : (j : ℕ) → j < length marks → get_or q.numbers_marks j [] ≡ get_or p.numbers_marks j []
  numbers_before j lt = ap (λ ns. get_or ns j []) set.numbers_marks ∙ get_or_append_left p.numbers_marks (p.now.numbers ∷ []) [] j (omega (arith, lt, w.numbers_count))

  numbers_last : (j : ℕ) → j ≡ length marks → get_or q.numbers_marks j [] ≡ p.now.numbers
  numbers_last j e = ap (λ ns. get_or ns j []) set.numbers_marks ∙ get_or_push p.numbers_marks p.now.numbers [] j (w.numbers_count ∙ sym e)

  edges_before : (j : ℕ) → j < length marks → get_or q.edges_marks j no_forest ≡ get_or p.edges_marks j no_forest
  edges_before j lt = ap (λ es. get_or es j no_forest) set.edges_marks ∙ get_or_append_left p.edges_marks (record { terms = p.terms; edges = p.now.edges } ∷ []) no_forest j (omega (arith, lt, w.edges_count))

  edges_last : (j : ℕ) → j ≡ length marks → get_or q.edges_marks j no_forest ≡ record { terms = p.terms; edges = p.now.edges }
  edges_last j e = ap (λ es. get_or es j no_forest) set.edges_marks ∙ get_or_push p.edges_marks (record { terms = p.terms; edges = p.now.edges }) no_forest j (w.edges_count ∙ sym e)

  mark_again : (n : ClosureMark) (numbers : List ℕ) (forest : ForestState) → IsMark p n numbers forest → IsMark q n numbers forest
  mark_again n numbers forest k =
      let same = ap (λ (s : PartsState). state_at s n.extent n.pending.items numbers forest.edges) set.now in
      record {
        kept = subst PartsFit (sym same) k.kept;
        saturated = λ e. subst IsSaturated (sym same) (k.saturated e);
        terms = k.terms;
        fits = omega (arith, k.fits, ap (λ (s : PartsState). length s.numbers) set.now);
        upto = subst (λ (s : PartsState). IsUpTo n.extent (extent_of s)) (sym set.now) k.upto;
      }

  extent_before : (j : ℕ) → j < length marks → extent_at (marks ++ m ∷ []) j ≡ extent_at marks j
  extent_before j lt = ap (λ xs. get_or xs j no_extent) (map_push (λ (n : ClosureMark). n.extent) marks m)
      ∙ get_or_append_left (map (λ (n : ClosureMark). n.extent) marks) (m.extent ∷ []) no_extent j (omega (arith, lt, length-map marks (λ (n : ClosureMark). n.extent)))

  extent_last : (j : ℕ) → j ≡ length marks → extent_at (marks ++ m ∷ []) j ≡ extent_of p.now
  extent_last j e = ap (λ xs. get_or xs j no_extent) (map_push (λ (n : ClosureMark). n.extent) marks m)
      ∙ get_or_push (map (λ (n : ClosureMark). n.extent) marks) m.extent no_extent j (length-map marks (λ (n : ClosureMark). n.extent) ∙ sym e) ∙ extent

  old_upto : (i : ℕ) → i < length marks → IsUpTo (extent_at marks i) (extent_of p.now)
  old_upto i lt =
      let n : ClosureMark = get_or marks i m in
      let k = w.kept i (get_or marks i m) lt (get_or_default marks i (get_or marks i m) m lt) in
      subst (λ (e : Extent). IsUpTo e (extent_of p.now)) (sym (get_or-map (λ (x : ClosureMark). x.extent) marks i m no_extent lt)) k.upto

  old_fits : (i : ℕ) → i < length marks → length (get_or p.numbers_marks i []) ≤ length p.now.numbers
  old_fits i lt = (w.kept i (get_or marks i m) lt (get_or_default marks i (get_or marks i m) m lt)).fits

  pub whole_marked : ClosureFits q saturated (marks ++ m ∷ [])
  whole_marked = record {
    done = λ e. subst IsSaturated (sym set.now) (w.done e);
    numbers_count = ap length set.numbers_marks ∙ length_push p.numbers_marks p.now.numbers ∙ ap (λ n. n + 1) w.numbers_count ∙ sym (length_push marks m);
    edges_count = ap length set.edges_marks ∙ length_push p.edges_marks (record { terms = p.terms; edges = p.now.edges }) ∙ ap (λ n. n + 1) w.edges_count ∙ sym (length_push marks m);
    kept = λ j n lt is. kept j n (places marks m j lt) is;
    ordered = λ i j le lt. ordered i j le (places marks m j lt);
    grown = λ i j le lt. grown i j le (places marks m j lt);
  }
    where
      kept : (j : ℕ) (n : ClosureMark) → (j < length marks) ⊎ (j ≡ length marks) → get_or (marks ++ m ∷ []) j n ≡ n → IsMark q n (get_or q.numbers_marks j []) (get_or q.edges_marks j no_forest)
      kept j n (inl lt) is = subst (λ ns. IsMark q n ns (get_or q.edges_marks j no_forest)) (sym (numbers_before j lt)) (subst (IsMark q n (get_or p.numbers_marks j [])) (sym (edges_before j lt))
          (mark_again n (get_or p.numbers_marks j []) (get_or p.edges_marks j no_forest) (w.kept j n lt (sym (get_or_append_left marks (m ∷ []) n j lt) ∙ is))))
      kept j n (inr e) is = subst (λ ns. IsMark q n ns (get_or q.edges_marks j no_forest)) (sym (numbers_last j e)) (subst (IsMark q n p.now.numbers) (sym (edges_last j e))
          (subst (λ (x : ClosureMark). IsMark q x p.now.numbers (record { terms = p.terms; edges = p.now.edges })) (sym (get_or_push marks m n j (sym e)) ∙ is) new_mark))

      ordered : (i j : ℕ) → i ≤ j → (j < length marks) ⊎ (j ≡ length marks) → IsUpTo (extent_at (marks ++ m ∷ []) i) (extent_at (marks ++ m ∷ []) j)
      ordered i j le (inl lt) = subst (λ (e : Extent). IsUpTo e (extent_at (marks ++ m ∷ []) j)) (sym (extent_before i (omega (arith, le, lt))))
          (subst (IsUpTo (extent_at marks i)) (sym (extent_before j lt)) (w.ordered i j le lt))
      ordered i j le (inr e) = subst (IsUpTo (extent_at (marks ++ m ∷ []) i)) (sym (extent_last j e)) (first (cases_lt i (length marks)))
        where
          first : (i < length marks) ⊎ (length marks ≤ i) → IsUpTo (extent_at (marks ++ m ∷ []) i) (extent_of p.now)
          first (inl lt) = subst (λ (x : Extent). IsUpTo x (extent_of p.now)) (sym (extent_before i lt)) (old_upto i lt)
          first (inr past) = subst (λ (x : Extent). IsUpTo x (extent_of p.now)) (sym (extent_last i (omega (arith, past, le, e)))) (record { listed = omega arith; held = omega arith; keys = omega arith })

      grown : (i j : ℕ) → i ≤ j → (j < length marks) ⊎ (j ≡ length marks) → length (get_or q.numbers_marks i []) ≤ length (get_or q.numbers_marks j [])
      grown i j le (inl lt) = subst (λ ns. length ns ≤ length (get_or q.numbers_marks j [])) (sym (numbers_before i (omega (arith, le, lt))))
          (subst (λ ns. length (get_or p.numbers_marks i []) ≤ length ns) (sym (numbers_before j lt)) (w.grown i j le lt))
      grown i j le (inr e) = subst (λ ns. length (get_or q.numbers_marks i []) ≤ length ns) (sym (numbers_last j e)) (first (cases_lt i (length marks)))
        where
          first : (i < length marks) ⊎ (length marks ≤ i) → length (get_or q.numbers_marks i []) ≤ length p.now.numbers
          first (inl lt) = subst (λ ns. length ns ≤ length p.now.numbers) (sym (numbers_before i lt)) (old_fits i lt)
          first (inr past) = subst (λ ns. length ns ≤ length p.now.numbers) (sym (numbers_last i (omega (arith, past, le, e)))) (omega arith)

-- ---- going back to a mark

-- what is popped of the marks up to one is this mark, and the older ones are left
pub found_mark : (marks cut left : List ClosureMark) (n : ℕ) (m : ClosureMark) → 0 < n → n ≤ length marks → cut ≡ take (length marks - n + 1) marks → cut ≡ left ++ m ∷ []
    → (get_or marks (length marks - n) m ≡ m) × (left ≡ take (length marks - n) marks)
found_mark marks cut left n m some few is popped =
    let both = same_from_push (take (length marks - n) marks) left (get_or marks (length marks - n) m) m (sym (take_more marks (length marks - n) m (omega (arith, some, few))) ∙ sym is ∙ popped) in
    (both.1, sym both.0)

module _ (p : PartsView) (saturated : Bool) (marks : List ClosureMark) (n : ℕ) (m : ClosureMark) (w : ClosureFits p saturated marks) (some : 0 < n) (few : n ≤ length marks) (is : get_or marks (length marks - n) m ≡ m) where
  low : length marks - n < length marks
  low = omega (arith, some, few)

  mark_there : IsMark p m (get_or p.numbers_marks (length marks - n) []) (get_or p.edges_marks (length marks - n) no_forest)
  mark_there = w.kept (length marks - n) m low is

  numbers_is : numbers_back p n ≡ get_or p.numbers_marks (length marks - n) []
  numbers_is = ap (λ k. get_or p.numbers_marks (k - n) []) w.numbers_count

  edges_is : forest_back p n ≡ get_or p.edges_marks (length marks - n) no_forest
  edges_is = ap (λ k. get_or p.edges_marks (k - n) no_forest) w.edges_count

  pub back_kept : PartsFit (state_at p.now m.extent m.pending.items (numbers_back p n) (forest_back p n).edges)
  back_kept = subst PartsFit (λ i. state_at p.now m.extent m.pending.items (sym numbers_is i) (sym edges_is i).edges) mark_there.kept

  pub back_fits : TermsFit p n
  back_fits = (
    subst (λ (ns : List ℕ). length ns ≤ (forest_back p n).terms) (sym numbers_is) (subst (λ (f : ForestState). length (get_or p.numbers_marks (length marks - n) []) ≤ f.terms) (sym edges_is) mark_there.terms),
    subst (λ (ns : List ℕ). length ns ≤ length p.now.numbers) (sym numbers_is) mark_there.fits,
  )

  extent_is : extent_at marks (length marks - n) ≡ m.extent
  extent_is = get_or-map (λ (x : ClosureMark). x.extent) marks (length marks - n) m no_extent low ∙ ap (λ (x : ClosureMark). x.extent) is

  -- an older mark had no more than this one
  older : (j : ℕ) (x : ClosureMark) → j < length marks - n → get_or marks j x ≡ x → IsUpTo x.extent m.extent
  older j x lt e =
      let within : j < length marks = omega (arith, lt, few) in
      let at_j : extent_at marks j ≡ x.extent = get_or-map (λ (y : ClosureMark). y.extent) marks j x no_extent within ∙ ap (λ (y : ClosureMark). y.extent) e in
      subst (λ (y : Extent). IsUpTo y m.extent) at_j (subst (IsUpTo (extent_at marks j)) extent_is (w.ordered j (length marks - n) (omega (arith, lt)) low))

  -- what was at an older mark is what it was
  facts_again : (e : Extent) → IsUpTo e m.extent → facts_at (facts_at p.now.facts m.extent) e ≡ facts_at p.now.facts e
  facts_again e le = λ i. record {
    listed = take-take e.listed m.extent.listed p.now.facts.listed le.listed i;
    truths = p.now.facts.truths;
    held = take-take e.held m.extent.held p.now.facts.held le.held i;
  }

  keys_again : (e : Extent) → IsUpTo e m.extent → oldest e.keys (oldest m.extent.keys p.now.keys) ≡ oldest e.keys p.now.keys
  keys_again e le = λ i. record { shapes = take-take e.keys m.extent.keys p.now.keys.shapes le.keys i; holders = take-take e.keys m.extent.keys p.now.keys.holders le.keys i }

  numbers_kept : (j : ℕ) → j < length marks - n → get_or (take (length p.numbers_marks - n) p.numbers_marks) j [] ≡ get_or p.numbers_marks j []
  numbers_kept j lt = get_or-take (length p.numbers_marks - n) p.numbers_marks j [] (omega (arith, lt, w.numbers_count))

  edges_kept : (j : ℕ) → j < length marks - n → get_or (take (length p.edges_marks - n) p.edges_marks) j no_forest ≡ get_or p.edges_marks j no_forest
  edges_kept j lt = get_or-take (length p.edges_marks - n) p.edges_marks j no_forest (omega (arith, lt, w.edges_count))

  below : (j : ℕ) → j < length (take (length marks - n) marks) → j < length marks - n
  below j lt = omega (arith, lt, length-take-le (length marks - n) marks (omega arith))

  mark_kept : (j : ℕ) (x : ClosureMark) → j < length marks - n → get_or marks j x ≡ x → IsMark (parts_back p n m.extent m.pending.items) x (get_or p.numbers_marks j []) (get_or p.edges_marks j no_forest)
  mark_kept j x lt e =
      let within : j < length marks = omega (arith, lt, few) in
      let k = w.kept j x within e in
      let le = older j x lt e in
      let same : state_at (parts_back p n m.extent m.pending.items).now x.extent x.pending.items (get_or p.numbers_marks j []) (get_or p.edges_marks j no_forest).edges
      ≡ state_at p.now x.extent x.pending.items (get_or p.numbers_marks j []) (get_or p.edges_marks j no_forest).edges
      = λ i. record {
        facts = facts_again x.extent le i;
        numbers = get_or p.numbers_marks j [];
        edges = (get_or p.edges_marks j no_forest).edges;
        keys = keys_again x.extent le i;
        left = record { looked = x.extent.looked; given = x.extent.given; pending = x.pending.items };
      } in
      record {
        kept = subst PartsFit (sym same) k.kept;
        saturated = λ d. subst IsSaturated (sym same) (k.saturated d);
        terms = k.terms;
        fits = subst (λ (ns : List ℕ). length (get_or p.numbers_marks j []) ≤ length ns) (sym numbers_is) (w.grown j (length marks - n) (omega (arith, lt)) low);
        upto = record {
          listed = omega (arith, le.listed, length-take-le m.extent.listed p.now.facts.listed mark_there.upto.listed);
          held = omega (arith, le.held, length-take-le m.extent.held p.now.facts.held mark_there.upto.held);
          keys = omega (arith, le.keys, length-take-le m.extent.keys p.now.keys.shapes mark_there.upto.keys);
        };
      }

  extent_kept : (j : ℕ) → j < length marks - n → extent_at (take (length marks - n) marks) j ≡ extent_at marks j
  extent_kept j lt = ap (λ xs. get_or xs j no_extent) (sym (take-map (λ (x : ClosureMark). x.extent) (length marks - n) marks)) ∙ get_or-take (length marks - n) (map (λ (x : ClosureMark). x.extent) marks) j no_extent lt

  pub whole_back : ClosureFits (parts_back p n m.extent m.pending.items) m.saturated (take (length marks - n) marks)
  whole_back = record {
    done = λ d. subst IsSaturated (λ i. state_at p.now m.extent m.pending.items (sym numbers_is i) (sym edges_is i).edges) (mark_there.saturated d);
    numbers_count = length-take-le (length p.numbers_marks - n) p.numbers_marks (omega arith) ∙ ap (λ k. k - n) w.numbers_count ∙ sym (length-take-le (length marks - n) marks (omega arith));
    edges_count = length-take-le (length p.edges_marks - n) p.edges_marks (omega arith) ∙ ap (λ k. k - n) w.edges_count ∙ sym (length-take-le (length marks - n) marks (omega arith));
    kept = λ j x lt e.
        let within = below j lt in
        let same = sym (get_or-take (length marks - n) marks j x within) ∙ e in
        subst (λ ns. IsMark (parts_back p n m.extent m.pending.items) x ns (get_or (take (length p.edges_marks - n) p.edges_marks) j no_forest)) (sym (numbers_kept j within))
        (subst (IsMark (parts_back p n m.extent m.pending.items) x (get_or p.numbers_marks j [])) (sym (edges_kept j within)) (mark_kept j x within same));
    ordered = λ i j le lt.
        let within = below j lt in
        subst (λ (e : Extent). IsUpTo e (extent_at (take (length marks - n) marks) j)) (sym (extent_kept i (omega (arith, le, within))))
        (subst (IsUpTo (extent_at marks i)) (sym (extent_kept j within)) (w.ordered i j le (omega (arith, within, few))));
    grown = λ i j le lt.
        let within = below j lt in
        subst (λ (ns : List ℕ). length ns ≤ length (get_or (take (length p.numbers_marks - n) p.numbers_marks) j [])) (sym (numbers_kept i (omega (arith, le, within))))
        (subst (λ (ns : List ℕ). length (get_or p.numbers_marks i []) ≤ length ns) (sym (numbers_kept j within)) (w.grown i j le (omega (arith, within, few))));
  }

  pub now_back : (d : ClosureState) → marked p.now.facts m ≡ get_or (map (marked p.now.facts) marks) (length (map (marked p.now.facts) marks) - n) d
  now_back d = ap (marked p.now.facts) (sym is) ∙ sym (get_or-map (marked p.now.facts) marks (length marks - n) m d low)
      ∙ ap (λ k. get_or (map (marked p.now.facts) marks) (k - n) d) (sym (length-map marks (marked p.now.facts)))

  pub marks_back : map (marked (facts_at p.now.facts m.extent)) (take (length marks - n) marks) ≡ take (length (map (marked p.now.facts) marks) - n) (map (marked p.now.facts) marks)
  marks_back = same (take (length marks - n) marks) (λ j x lt e. older j x (below j lt) (sym (get_or-take (length marks - n) marks j x (below j lt)) ∙ e))
      ∙ sym (take-map (marked p.now.facts) (length marks - n) marks) ∙ ap (λ k. take (k - n) (map (marked p.now.facts) marks)) (sym (length-map marks (marked p.now.facts)))
    where
      same : (ms : List ClosureMark) → ((j : ℕ) (x : ClosureMark) → j < length ms → get_or ms j x ≡ x → IsUpTo x.extent m.extent) → map (marked (facts_at p.now.facts m.extent)) ms ≡ map (marked p.now.facts) ms
      same [] le = refl
      same (x ∷ ms) le =
          let first = facts_again x.extent (le 0 x (omega arith) refl) in
          let rest : map (marked (facts_at p.now.facts m.extent)) ms ≡ map (marked p.now.facts) ms = same ms (λ j y lt e. le (suc j) y (omega (arith, lt)) e) in
          λ i. record { facts = first i; saturated = x.saturated } ∷ rest i
