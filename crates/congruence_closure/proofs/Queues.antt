-- The terms with an argument among some are put last among those to look at.
use Rattle.std.proofs.Common.{◌≡◌, ℕ, zero, suc, ◌+◌, ◌<◌, ◌≤◌, true, List, [], ◌∷◌, ◌++◌, length, get_or, take, slice_index, inl, inr, ◌⊎◌, sym, ap, ◌∙◌, subst, arith}
use Rattle.std.specs.Prelude.{Contains}
use Rattle.std.proofs.lemmas.Bool.{cases_lt}
use Rattle.std.proofs.lemmas.Bool.Decides.{nat_tests}
use Rattle.std.proofs.lemmas.List.{append-nil, append_assoc, take_more, take_all}
use Rattle.std.proofs.lemmas.List.Elements.{Contains-append_left, Contains-append_right, Contains-push_cases}
use Rattle.term_core.specs.declared.ids.TermId.{TermId}
use Rattle.class_table.specs.Classes.{class_at, members_count, AreMembers, AreSame}
use Rattle.class_table.specs.Rings.{occurrences}
use Rattle.class_table.proofs.Lists.{occurs, occurrences-count}
use Rattle.congruence_relation.specs.Relation.{Application}
use Rattle.congruence_closure.specs.Listed.{nth, AreUsers}
use Rattle.congruence_closure.specs.Changes.{AreClassUsers}

-- Places were put last, among which are those of all terms that take part and have one of these as an argument.
pub record HaveQueued (listed : List Application) (old : List ℕ) (members : List TermId) (new : List ℕ) : Type 0 where
  -- what was put
  pub more : List ℕ
  -- it is last
  pub is : new ≡ old ++ more
  -- these are all
  pub all : (i : ℕ) (a : TermId) → i < length listed → (nth listed i).takes_part ≡ true → Contains (nth listed i).shape.arguments a → Contains members a → Contains more i

pub queued_none : (listed : List Application) (old : List ℕ) → HaveQueued listed old [] old
queued_none listed old = record { more = []; is = sym (append-nil old); all = λ i a lt part c m. absurd (omega (arith, m.1)) }

pub queued_more : (listed : List Application) (old between new users : List ℕ) (members : List TermId) (k : ℕ) (d : TermId) → k < length members → HaveQueued listed old (take k members) between
    → AreUsers listed (get_or members k d) users → new ≡ between ++ users → HaveQueued listed old (take (k + 1) members) new
queued_more listed old between new users members k d lt h found e = record {
  more = h.more ++ users;
  is = e ∙ ap (λ xs. xs ++ users) h.is ∙ append_assoc old h.more users;
  all = λ i a low part c m. go i a low part c (Contains-push_cases (take k members) (get_or members k d) a (subst (λ xs. Contains xs a) (take_more members k d lt) m));
}
  where
    go : (i : ℕ) (a : TermId) → i < length listed → (nth listed i).takes_part ≡ true → Contains (nth listed i).shape.arguments a → Contains (take k members) a ⊎ (get_or members k d ≡ a) → Contains (h.more ++ users) i
    go i a low part c (inl there) = Contains-append_left h.more users i (h.all i a low part c there)
    go i a low part c (inr is) = Contains-append_right h.more users i (found i low part (subst (Contains (nth listed i).shape.arguments) (sym is) c))

pub queued_all : (listed : List Application) (numbers : List ℕ) (t : TermId) (old new : List ℕ) (members : List TermId) (k : ℕ) → length members ≤ k → AreMembers numbers t members
    → (h : HaveQueued listed old (take k members) new) → AreClassUsers listed numbers t h.more
queued_all listed numbers t old new members k le are h i a low part c there same = h.all i a low part c (subst (λ xs. Contains xs a) (sym (take_all k members le)) ((are.each a).1 (there, same)))

-- ---- a class of one term

-- what stands at two places occurs twice
two_places : (c : ℕ) (xs : List ℕ) (i j : ℕ) → i < j → j < length xs → slice_index xs i ≡ c → slice_index xs j ≡ c → 1 < occurrences c xs
two_places c [] i j lt low e f = absurd (omega (arith, low))
two_places c (x ∷ xs) i zero lt low e f = absurd (omega (arith, lt))
two_places c (x ∷ xs) zero (suc j) lt low e f =
    let more : 0 < occurrences c xs = occurs c xs j (omega (arith, low)) f in
    grind (arith, nat_tests, e, more)
two_places c (x ∷ xs) (suc i) (suc j) lt low e f =
    let more : 1 < occurrences c xs = two_places c xs i j (omega (arith, lt)) (omega (arith, low)) e f in
    omega (arith, more)

-- no other term is in a class that counts one
only_member : (numbers : List ℕ) (t a : TermId) → members_count numbers (class_at numbers t) ≡ 1 → t.0 < length numbers → a.0 < length numbers → AreSame numbers a t → a ≡ t
only_member numbers t a one low there same = λ i. record { 0 = equal (cases_lt a.0 t.0) (cases_lt t.0 a.0) i }
  where
    twice : 1 < occurrences (class_at numbers t) numbers → ⊥
    twice h = omega (arith, h, occurrences-count (class_at numbers t) numbers, one)

    equal : (a.0 < t.0) ⊎ (t.0 ≤ a.0) → (t.0 < a.0) ⊎ (a.0 ≤ t.0) → a.0 ≡ t.0
    equal (inl lt) other = absurd (twice (two_places (class_at numbers t) numbers a.0 t.0 lt low same (λ i. class_at numbers t)))
    equal (inr le) (inl lt) = absurd (twice (two_places (class_at numbers t) numbers t.0 a.0 lt there (λ i. class_at numbers t) same))
    equal (inr le) (inr ge) = omega (arith, le, ge)

-- its users are those of the term
pub queued_one : (listed : List Application) (numbers : List ℕ) (t : TermId) (users : List ℕ) → members_count numbers (class_at numbers t) ≡ 1 → t.0 < length numbers → AreUsers listed t users → AreClassUsers listed numbers t users
queued_one listed numbers t users one low found i a in_list part c there same = found i in_list part (subst (Contains (nth listed i).shape.arguments) (only_member numbers t a one low there same) c)
