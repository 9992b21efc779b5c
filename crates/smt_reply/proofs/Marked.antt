-- Marks of a table's terms, of which some are taken.
use Rattle.std.proofs.Common.{◌≡◌, ℕ, ◌+◌, ◌<◌, Bool, true, false, not, ◌&&◌, ◌||◌, inl, inr, List, [], ◌∷◌, ◌++◌, cond, length, drop, get_or, Option, Some, None, refl, sym, ap, ◌∙◌, subst, arith, append_assoc, append-nil}
use Rattle.std.specs.Prelude.{◌≤◌, slice_index_or}
use Rattle.std.specs.List.{slice_set}
use Rattle.std.proofs.lemmas.Bool.{false≢true, cases_eq}
use Rattle.std.proofs.lemmas.List.{drop_more, drop_all, get_or-map, length-map, get_or-set_same, get_or-set_other, length-set}
use Rattle.spec_text.specs.Bytes.{Name}
use Rattle.spec_text.specs.Printed.{printed}
use Rattle.spec_text.specs.Trees.{list, none}
use Rattle.spec_sorts.specs.Terms.{Term, no_term, same_term}
use Rattle.spec_sorts.specs.Subterms.{has_term}
use Rattle.spec_sorts.specs.Signatures.{is_some}
use Rattle.spec_sorts.proofs.SameTerms.{terms_decide}
use Rattle.spec_commands.specs.Labels.{label_of}
use Rattle.spec_commands.specs.Stack.{Assertion, Stack, assertions_of}
use Rattle.spec_sessions.specs.Cores.{unnamed_by, unnamed, named_by, names_from, core_names, literals_from}
use Rattle.term_core.specs.declared.ids.TermId.{TermId}
use Rattle.term_core.specs.Tables.{TableView, term_at, IsIn, AreDifferent}
use Rattle.alethe_writer.specs.Assumes.{SaysWhether}
use Rattle.assertion_stack.specs.declared.stack.Stack.{Stack as CodeStack}
use Rattle.assertion_stack.specs.Assertions.{no_written, as_written, texts_printed}
use Rattle.assertion_stack.specs.Stacks.{over_table, IsStack, AreAssumed}
use Rattle.smt_reply.specs.Cores.{counts_named, counts_unseen, striking, ListsMarked}

-- tests of truth values
and_false : (a : Bool) → a && false ≡ false
and_false true = refl
and_false false = refl

and_true : (a : Bool) → a && true ≡ a
and_true true = refl
and_true false = refl

or_false : (a : Bool) → a || false ≡ a
or_false true = refl
or_false false = refl

unless_both : (a s r : Bool) → (a && not r) && not s ≡ a && not (s || r)
unless_both false s r = refl
unless_both true true true = refl
unless_both true true false = refl
unless_both true false true = refl
unless_both true false false = refl

unless_all : (a n s x : Bool) → (a && not (n || s)) && not x ≡ a && not (n || (x || s))
unless_all false n s x = refl
unless_all true true s x = refl
unless_all true false true true = refl
unless_all true false true false = refl
unless_all true false false true = refl
unless_all true false false false = refl

module _ (t : TableView) where
  -- by another test that says the same
  pub says_same : (test other : Term → Bool) (marks : List Bool) → ((u : Term) → test u ≡ other u) → SaysWhether t test marks → SaysWhether t other marks
  says_same test other marks e h = record { as_many = h.as_many; each = λ k lt. h.each k lt ∙ e (slice_index_or t.terms k no_term) }

  module _ (apart : AreDifferent t.terms) where
    -- one term less is marked
    pub one_less : (test : Term → Bool) (id : TermId) (old : List Bool) → IsIn t id → SaysWhether t test old → SaysWhether t (λ u. test u && not (same_term (term_at t id) u)) (slice_set old id.0 false)
    one_less test id old there h = record {
      as_many = length-set old id.0 false ∙ h.as_many;
      each = λ k lt. elim (cases_eq k id.0) [
        | inl same ↦ at_it k same
        | inr differ ↦ other k lt differ (same_term (term_at t id) (slice_index_or t.terms k no_term)) refl
      ];
    }
      where
        at_it : (k : ℕ) → k ≡ id.0 → get_or (slice_set old id.0 false) k false ≡ test (slice_index_or t.terms k no_term) && not (same_term (term_at t id) (slice_index_or t.terms k no_term))
        at_it k same =
            let u : Term = slice_index_or t.terms k no_term in
            let is : term_at t id ≡ u = ap (λ n. slice_index_or t.terms n no_term) (sym same) in
            let within : id.0 < length old = omega (arith, there, h.as_many) in
            ap (λ n. get_or (slice_set old id.0 false) n false) same ∙ get_or-set_same old id.0 false false within
            ∙ sym (ap (λ b. test u && not b) ((terms_decide (term_at t id) u).1 is) ∙ and_false (test u))

        other : (k : ℕ) → k < length t.terms → (k ≡ id.0 → ⊥) → (b : Bool) → same_term (term_at t id) (slice_index_or t.terms k no_term) ≡ b → get_or (slice_set old id.0 false) k false ≡ test (slice_index_or t.terms k no_term) && not b
        other k lt differ true e = absurd (differ (sym (apart id.0 k there lt ((terms_decide (term_at t id) (slice_index_or t.terms k no_term)).0 e))))
        other k lt differ false e = get_or-set_other old id.0 k false false differ ∙ h.each k lt ∙ sym (and_true (test (slice_index_or t.terms k no_term)))

-- what no place has
abbrev pub no_assertion : Assertion
no_assertion = record { text = list 0 none 0; term = no_term }

-- the terms that are struck from an assertion on
struck_more : (all : Bool) (a : Assertion) (rest : List Assertion) (u : Term) → all || not (is_some (label_of a.text)) ≡ true → has_term (striking all (a ∷ rest)) u ≡ same_term a.term u || has_term (striking all rest) u
struck_more true a rest u e = refl
struck_more false a rest u e = go (label_of a.text) e
  where
    go : (l : Option Name) → not (is_some l) ≡ true → has_term (unnamed_by l a.term (unnamed rest)) u ≡ same_term a.term u || has_term (unnamed rest) u
    go None e = refl
    go (Some n) e = absurd (false≢true e)

struck_same : (all : Bool) (a : Assertion) (rest : List Assertion) → all || not (is_some (label_of a.text)) ≡ false → striking all (a ∷ rest) ≡ striking all rest
struck_same true a rest e = absurd (false≢true (sym e))
struck_same false a rest e = go (label_of a.text) e
  where
    go : (l : Option Name) → not (is_some l) ≡ false → unnamed_by l a.term (unnamed rest) ≡ unnamed rest
    go None e = absurd (false≢true (sym e))
    go (Some n) e = refl

-- whether a term is left where the assertions from a place on are struck
abbrev pub left_by : (Term → Bool) → Bool → List Assertion → Term → Bool
left_by test all struck u = test u && not (has_term (striking all struck) u)

module _ (limit : ℕ) (t : TableView) (x : CodeStack) (s : Stack) (h : IsStack limit (over_table t x) s) where
  abbrev stated : List Assertion
  stated = assertions_of s

  pub long : length x.assertions.ids ≡ length stated
  long = sym (length-map x.assertions.ids (term_at t)) ∙ ap length h.states.terms ∙ length-map stated (λ (a : Assertion). a.term)

  -- the assertion of a place, with its term and its label
  abbrev one : ℕ → Assertion
  one k = get_or stated k no_assertion

  term_is : (k : ℕ) (d : TermId) → k < length x.assertions.ids → term_at t (get_or x.assertions.ids k d) ≡ (one k).term
  term_is k d lt = sym (get_or-map (term_at t) x.assertions.ids k d no_term lt) ∙ ap (λ ts. get_or ts k no_term) h.states.terms ∙ get_or-map (λ (a : Assertion). a.term) stated k no_assertion no_term (omega (arith, lt, long))

  pub label_is : (k : ℕ) → k < length x.assertions.ids → (slice_index_or x.assertions.written k no_written).label ≡ label_of (one k).text
  label_is k lt = ap (λ ws. (get_or ws k no_written).label) h.states.written ∙ ap (λ w. w.label) (get_or-map (λ (a : Assertion). as_written a.text) stated k no_assertion no_written (omega (arith, lt, long)))

  from_one : (k : ℕ) → k < length x.assertions.ids → drop k stated ≡ one k ∷ drop (k + 1) stated
  from_one k lt = drop_more stated k no_assertion (omega (arith, lt, long))

  module _ (apart : AreDifferent t.terms) (all : Bool) (test : Term → Bool) (k : ℕ) (d : TermId) (lt : k < length x.assertions.ids) where
    -- one assertion more is struck, or is not
    pub one_struck : (there : IsIn t (get_or x.assertions.ids k d)) (old : List Bool) → all || not (is_some (slice_index_or x.assertions.written k no_written).label) ≡ true
        → SaysWhether t (left_by test all (drop (k + 1) stated)) old → SaysWhether t (left_by test all (drop k stated)) (slice_set old (get_or x.assertions.ids k d).0 false)
    one_struck there old e m =
        let rest : List Assertion = drop (k + 1) stated in
        let id : TermId = get_or x.assertions.ids k d in
        says_same t (λ u. left_by test all rest u && not (same_term (term_at t id) u)) (left_by test all (drop k stated)) (slice_set old id.0 false)
        (λ u. ap (λ w. left_by test all rest u && not (same_term w u)) (term_is k d lt)
        ∙ unless_both (test u) (same_term (one k).term u) (has_term (striking all rest) u)
        ∙ ap (λ b. test u && not b) (sym (struck_more all (one k) rest u (ap (λ l. all || not (is_some l)) (sym (label_is k lt)) ∙ e)))
        ∙ ap (λ xs. left_by test all xs u) (sym (from_one k lt)))
        (one_less t apart (left_by test all rest) id old there m)

    pub none_struck : (old : List Bool) → all || not (is_some (slice_index_or x.assertions.written k no_written).label) ≡ false
        → SaysWhether t (left_by test all (drop (k + 1) stated)) old → SaysWhether t (left_by test all (drop k stated)) old
    none_struck old e m =
        let rest : List Assertion = drop (k + 1) stated in
        says_same t (left_by test all rest) (left_by test all (drop k stated)) old
        (λ u. ap (λ ts. test u && not (has_term ts u)) (sym (struck_same all (one k) rest (ap (λ l. all || not (is_some l)) (sym (label_is k lt)) ∙ e)))
        ∙ ap (λ xs. left_by test all xs u) (sym (from_one k lt))) m

-- the names from an assertion on, by its label
module _ (assumed without_name seen : List Term) (a : Assertion) (rest : List Assertion) where
  names_past : label_of a.text ≡ None → names_from assumed without_name seen (a ∷ rest) ≡ names_from assumed without_name seen rest
  unfolding names_from
  names_past e = ap (λ l. named_by l (counts_named assumed without_name seen a.term) (λ s. names_from assumed without_name s rest) seen a.term) e

  names_with : (n : Name) → label_of a.text ≡ Some n → counts_named assumed without_name seen a.term ≡ true → names_from assumed without_name seen (a ∷ rest) ≡ n ∷ names_from assumed without_name (a.term ∷ seen) rest
  unfolding names_from
  names_with n e f = λ i. named_by (e i) (f i) (λ s. names_from assumed without_name s rest) seen a.term

  names_without : (n : Name) → label_of a.text ≡ Some n → counts_named assumed without_name seen a.term ≡ false → names_from assumed without_name seen (a ∷ rest) ≡ names_from assumed without_name (a.term ∷ seen) rest
  unfolding names_from
  names_without n e f = λ i. named_by (e i) (f i) (λ s. names_from assumed without_name s rest) seen a.term

-- What is named of the assertions before a place, and what is marked then.
pub record AreNamed (t : TableView) (assumed : List Term) (asserted : List Assertion) (k : ℕ) (marks : List Bool) (names : List Name) : Type 0 where
  pub seen : List Term
  pub marked : SaysWhether t (counts_named assumed (unnamed asserted) seen) marks
  pub named : names ++ names_from assumed (unnamed asserted) seen (drop k asserted) ≡ core_names assumed asserted

pub none_named : (t : TableView) (assumed : List Term) (asserted : List Assertion) (marks : List Bool) → SaysWhether t (counts_named assumed (unnamed asserted) []) marks → AreNamed t assumed asserted 0 marks []
none_named t assumed asserted marks h = record { seen = []; marked = h; named = refl }

module _ (limit : ℕ) (t : TableView) (x : CodeStack) (s : Stack) (h : IsStack limit (over_table t x) s) (apart : AreDifferent t.terms) (assumed : List Term) (k : ℕ) (lt : k < length x.assertions.ids) (marks : List Bool) (names : List Name) (so_far : AreNamed t assumed (assertions_of s) k marks names) where
  abbrev all : List Assertion
  all = assertions_of s

  abbrev here : Assertion
  here = get_or all k no_assertion

  here_is : drop k all ≡ here ∷ drop (k + 1) all
  here_is = from_one limit t x s h k lt

  -- an assertion without a name
  pub not_named : (slice_index_or x.assertions.written k no_written).label ≡ None → AreNamed t assumed all (k + 1) marks names
  not_named e = record {
    seen = so_far.seen;
    marked = so_far.marked;
    named =
        ap (λ ns. names ++ ns) (sym (names_past assumed (unnamed all) so_far.seen here (drop (k + 1) all) (sym (label_is limit t x s h k lt) ∙ e)) ∙ sym (ap (names_from assumed (unnamed all) so_far.seen) here_is))
        ∙ so_far.named;
  }

  module _ (d : TermId) (there : IsIn t (get_or x.assertions.ids k d)) (n : Name) (e : (slice_index_or x.assertions.written k no_written).label ≡ Some n) where
    abbrev id : TermId
    id = get_or x.assertions.ids k d

    labelled : label_of here.text ≡ Some n
    labelled = sym (label_is limit t x s h k lt) ∙ e

    was : get_or marks id.0 false ≡ counts_named assumed (unnamed all) so_far.seen here.term
    was = so_far.marked.each id.0 there ∙ ap (counts_named assumed (unnamed all) so_far.seen) (term_is limit t x s h k d lt)

    marks_left : SaysWhether t (counts_named assumed (unnamed all) (here.term ∷ so_far.seen)) (slice_set marks id.0 false)
    marks_left =
        let test : Term → Bool = counts_named assumed (unnamed all) so_far.seen in
        says_same t (λ u. test u && not (same_term (term_at t id) u)) (counts_named assumed (unnamed all) (here.term ∷ so_far.seen)) (slice_set marks id.0 false)
        (λ u. ap (λ w. test u && not (same_term w u)) (term_is limit t x s h k d lt) ∙ unless_all (has_term assumed u) (has_term (unnamed all) u) (has_term so_far.seen u) (same_term here.term u))
        (one_less t apart test id marks there so_far.marked)

    -- one that is of the core
    pub one_named : get_or marks id.0 false ≡ true → AreNamed t assumed all (k + 1) (slice_set marks id.0 false) (names ++ n ∷ [])
    one_named f = record {
      seen = here.term ∷ so_far.seen;
      marked = marks_left;
      named =
          append_assoc names (n ∷ []) (names_from assumed (unnamed all) (here.term ∷ so_far.seen) (drop (k + 1) all))
          ∙ ap (λ ns. names ++ ns) (sym (names_with assumed (unnamed all) so_far.seen here (drop (k + 1) all) n labelled (sym was ∙ f)) ∙ sym (ap (names_from assumed (unnamed all) so_far.seen) here_is))
          ∙ so_far.named;
    }

    -- and one that is not
    pub one_passed : get_or marks id.0 false ≡ false → AreNamed t assumed all (k + 1) (slice_set marks id.0 false) names
    one_passed f = record {
      seen = here.term ∷ so_far.seen;
      marked = marks_left;
      named =
          ap (λ ns. names ++ ns) (sym (names_without assumed (unnamed all) so_far.seen here (drop (k + 1) all) n labelled (sym was ∙ f)) ∙ sym (ap (names_from assumed (unnamed all) so_far.seen) here_is))
          ∙ so_far.named;
    }

  -- whichever it is
  pub next_named : (d : TermId) (there : IsIn t (get_or x.assertions.ids k d)) (left : List Bool) (later : List Name) → ListsMarked (slice_index_or x.assertions.written k no_written).label (get_or x.assertions.ids k d).0 marks names left later → AreNamed t assumed all (k + 1) left later
  next_named d there left later r = go (slice_index_or x.assertions.written k no_written).label refl r
    where
      same : (ms : List Bool) (ns : List Name) → left ≡ ms → later ≡ ns → AreNamed t assumed all (k + 1) ms ns → AreNamed t assumed all (k + 1) left later
      same ms ns e f h = subst (λ y. AreNamed t assumed all (k + 1) y later) (sym e) (subst (λ y. AreNamed t assumed all (k + 1) ms y) (sym f) h)

      by : (n : Name) (e : (slice_index_or x.assertions.written k no_written).label ≡ Some n) (b : Bool) → get_or marks (get_or x.assertions.ids k d).0 false ≡ b → left ≡ slice_set marks (get_or x.assertions.ids k d).0 false → later ≡ cond b (names ++ n ∷ []) names → AreNamed t assumed all (k + 1) left later
      by n e true f g h = same _ _ g h (one_named d there n e f)
      by n e false f g h = same _ _ g h (one_passed d there n e f)

      go : (l : Option Name) → (slice_index_or x.assertions.written k no_written).label ≡ l → ListsMarked l (get_or x.assertions.ids k d).0 marks names left later → AreNamed t assumed all (k + 1) left later
      go None e q = same _ _ q.0 q.1 (not_named e)
      go (Some n) e q = by n e (get_or marks (get_or x.assertions.ids k d).0 false) refl q.0 q.1

-- all are named
pub all_named : (t : TableView) (assumed : List Term) (asserted : List Assertion) (k : ℕ) (marks : List Bool) (names : List Name) → length asserted ≤ k → AreNamed t assumed asserted k marks names → names ≡ core_names assumed asserted
unfolding names_from
all_named t assumed asserted k marks names le so_far =
    sym (append-nil names) ∙ ap (λ xs. names ++ names_from assumed (unnamed asserted) so_far.seen xs) (sym (drop_all k asserted le)) ∙ so_far.named

-- so it is of literals
pub record AreListed (t : TableView) (assumed before : List Term) (ls : List Assertion) (k : ℕ) (marks : List Bool) (texts : List (List ℕ)) : Type 0 where
  pub seen : List Term
  pub marked : SaysWhether t (counts_unseen assumed seen) marks
  pub listed : texts ++ texts_printed (literals_from assumed seen (drop k ls)) ≡ texts_printed (literals_from assumed before ls)

pub none_listed : (t : TableView) (assumed before : List Term) (ls : List Assertion) (marks : List Bool) → SaysWhether t (counts_unseen assumed before) marks → AreListed t assumed before ls 0 marks []
none_listed t assumed before ls marks h = record { seen = before; marked = h; listed = refl }

pub all_listed : (t : TableView) (assumed before : List Term) (ls : List Assertion) (k : ℕ) (marks : List Bool) (texts : List (List ℕ)) → length ls ≤ k → AreListed t assumed before ls k marks texts → texts ≡ texts_printed (literals_from assumed before ls)
unfolding literals_from
all_listed t assumed before ls k marks texts le so_far =
    sym (append-nil texts) ∙ ap (λ xs. texts ++ texts_printed (literals_from assumed so_far.seen xs)) (sym (drop_all k ls le)) ∙ so_far.listed

module _ (assumed seen : List Term) (l : Assertion) (rest : List Assertion) where
  listed_with : counts_unseen assumed seen l.term ≡ true → literals_from assumed seen (l ∷ rest) ≡ l ∷ literals_from assumed (l.term ∷ seen) rest
  unfolding literals_from
  listed_with f = ap (λ b. cond b (l ∷ literals_from assumed (l.term ∷ seen) rest) (literals_from assumed (l.term ∷ seen) rest)) f

  listed_without : counts_unseen assumed seen l.term ≡ false → literals_from assumed seen (l ∷ rest) ≡ literals_from assumed (l.term ∷ seen) rest
  unfolding literals_from
  listed_without f = ap (λ b. cond b (l ∷ literals_from assumed (l.term ∷ seen) rest) (literals_from assumed (l.term ∷ seen) rest)) f

-- a number for each literal
pub as_many_literals : (t : TableView) (ids : List TermId) (ls : List Assertion) → AreAssumed t ids ls → length ids ≡ length ls
as_many_literals t ids ls a = sym (length-map ids (term_at t)) ∙ ap length a.terms ∙ length-map ls (λ (l : Assertion). l.term)

module _ (t : TableView) (apart : AreDifferent t.terms) (ids : List TermId) (ls : List Assertion) (a : AreAssumed t ids ls) (rows : List (List ℕ)) (printed_so : rows ≡ texts_printed ls) (assumed before : List Term) (k : ℕ) (d : TermId) (lt : k < length ids) (marks : List Bool) (texts : List (List ℕ)) (so_far : AreListed t assumed before ls k marks texts) where
  as_long : length ids ≡ length ls
  as_long = as_many_literals t ids ls a

  abbrev literal : Assertion
  literal = get_or ls k no_assertion

  abbrev number : TermId
  number = get_or ids k d

  within : k < length ls
  within = omega (arith, lt, as_long)

  means : term_at t number ≡ literal.term
  means = sym (get_or-map (term_at t) ids k d no_term lt) ∙ ap (λ ts. get_or ts k no_term) a.terms ∙ get_or-map (λ (l : Assertion). l.term) ls k no_assertion no_term within

  is_printed : (e : List ℕ) → get_or rows k e ≡ printed literal.text
  is_printed e = ap (λ rs. get_or rs k e) printed_so ∙ get_or-map (λ (l : Assertion). printed l.text) ls k no_assertion e within

  there : IsIn t number
  there = a.inside k d lt

  was_marked : get_or marks number.0 false ≡ counts_unseen assumed so_far.seen literal.term
  was_marked = so_far.marked.each number.0 there ∙ ap (counts_unseen assumed so_far.seen) means

  still : SaysWhether t (counts_unseen assumed (literal.term ∷ so_far.seen)) (slice_set marks number.0 false)
  still =
      let test : Term → Bool = counts_unseen assumed so_far.seen in
      says_same t (λ u. test u && not (same_term (term_at t number) u)) (counts_unseen assumed (literal.term ∷ so_far.seen)) (slice_set marks number.0 false)
      (λ u. ap (λ w. test u && not (same_term w u)) means ∙ unless_both (has_term assumed u) (same_term literal.term u) (has_term so_far.seen u))
      (one_less t apart test number marks there so_far.marked)

  from_here : drop k ls ≡ literal ∷ drop (k + 1) ls
  from_here = drop_more ls k no_assertion within

  pub one_listed : (e : List ℕ) → get_or marks number.0 false ≡ true → AreListed t assumed before ls (k + 1) (slice_set marks number.0 false) (texts ++ get_or rows k e ∷ [])
  one_listed e f = record {
    seen = literal.term ∷ so_far.seen;
    marked = still;
    listed =
        append_assoc texts (get_or rows k e ∷ []) (texts_printed (literals_from assumed (literal.term ∷ so_far.seen) (drop (k + 1) ls)))
        ∙ ap (λ r. texts ++ r ∷ texts_printed (literals_from assumed (literal.term ∷ so_far.seen) (drop (k + 1) ls))) (is_printed e)
        ∙ ap (λ xs. texts ++ texts_printed xs) (sym (listed_with assumed so_far.seen literal (drop (k + 1) ls) (sym was_marked ∙ f)) ∙ sym (ap (literals_from assumed so_far.seen) from_here))
        ∙ so_far.listed;
  }

  pub one_unlisted : get_or marks number.0 false ≡ false → AreListed t assumed before ls (k + 1) (slice_set marks number.0 false) texts
  one_unlisted f = record {
    seen = literal.term ∷ so_far.seen;
    marked = still;
    listed =
        ap (λ xs. texts ++ texts_printed xs) (sym (listed_without assumed so_far.seen literal (drop (k + 1) ls) (sym was_marked ∙ f)) ∙ sym (ap (literals_from assumed so_far.seen) from_here))
        ∙ so_far.listed;
  }

  pub next_listed : (e : List ℕ) (left : List Bool) (later : List (List ℕ)) → ListsMarked (Some (get_or rows k e)) number.0 marks texts left later → AreListed t assumed before ls (k + 1) left later
  next_listed e left later r = go (get_or marks number.0 false) refl r.1
    where
      same : (ts : List (List ℕ)) → later ≡ ts → AreListed t assumed before ls (k + 1) (slice_set marks number.0 false) ts → AreListed t assumed before ls (k + 1) left later
      same ts f h = subst (λ y. AreListed t assumed before ls (k + 1) y later) (sym r.0) (subst (λ y. AreListed t assumed before ls (k + 1) (slice_set marks number.0 false) y) (sym f) h)

      go : (b : Bool) → get_or marks number.0 false ≡ b → later ≡ cond b (texts ++ get_or rows k e ∷ []) texts → AreListed t assumed before ls (k + 1) left later
      go true f g = same _ g (one_listed e f)
      go false f g = same _ g (one_unlisted f)

-- nothing is struck past the last assertion
pub none_left : (limit : ℕ) (t : TableView) (x : CodeStack) (s : Stack) → IsStack limit (over_table t x) s → (test : Term → Bool) (all : Bool) (k : ℕ) (marks : List Bool) → length x.assertions.ids ≤ k → SaysWhether t test marks → SaysWhether t (left_by test all (drop k (assertions_of s))) marks
none_left limit t x s h test all k marks le m =
    says_same t test (left_by test all (drop k (assertions_of s))) marks (λ u. sym (ap (λ xs. left_by test all xs u) (drop_all k (assertions_of s) (omega (arith, le, long limit t x s h))) ∙ nothing all u)) m
  where
    nothing : (b : Bool) (u : Term) → left_by test b [] u ≡ test u
    nothing true u = and_true (test u)
    nothing false u = and_true (test u)

-- where none without a name is left, no name was seen
pub none_seen : (t : TableView) (assumed without_name : List Term) (marks : List Bool) → SaysWhether t (λ u. has_term assumed u && not (has_term without_name u)) marks → SaysWhether t (counts_named assumed without_name []) marks
none_seen t assumed without_name marks m =
    says_same t (λ u. has_term assumed u && not (has_term without_name u)) (counts_named assumed without_name []) marks (λ u. ap (λ b. has_term assumed u && not b) (sym (or_false (has_term without_name u)))) m

-- there are as many marks as before
pub still_long : (marks left : List Bool) (label : Option (List ℕ)) (n : ℕ) (texts later : List (List ℕ)) → ListsMarked label n marks texts left later → length left ≡ length marks
still_long marks left None n texts later q = ap length q.0
still_long marks left (Some text) n texts later q = ap length q.0 ∙ length-set marks n false
