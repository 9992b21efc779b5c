-- The bounds that literals state: of more literals, of the first ones, by other places, and how many they are.
use Rattle.std.proofs.Common.{◌≡◌, ◌≢◌, ◌+◌, ◌*◌, ◌≤◌, ℕ, zero, suc, Bool, true, false, List, [], ◌∷◌, ◌++◌, length, take, cond, All, Contains, Option, Some, None, refl, ap, ◌∙◌, arith}
use Rattle.std.specs.List.{filter}
use Rattle.std.specs.Option.{is_some}
use Rattle.std.proofs.lemmas.List.{length-append, append-nil}
use Rattle.std.proofs.lemmas.List.Elements.{All-head, All-tail, All-filter, filter_passes}
use Rattle.std.proofs.lemmas.List.Kept.{AllPairs-filter}
use Rattle.spec_text.proofs.Members.{in_filter}
use Rattle.term_core.specs.declared.ids.TermId.{TermId}
use Rattle.term_core.specs.declared.ids.Lit.{Lit}
use Rattle.held_literals.specs.Room.{IsHeldOver}
use Rattle.held_literals.proofs.Rooms.{bounded}
use Rattle.spec_tableaux.specs.Fields.{is_positive}
use Rattle.spec_tableaux.specs.Numbers.{numbers}
use Rattle.tableau.specs.Numbers.{number_of}
use Rattle.spec_simplex.specs.Constraints.{Relation, below, at_most, equals, at_least, above}
use Rattle.simplex_atoms.specs.declared.slack.Slack.{Slack}
use Rattle.simplex_atoms.specs.Slacks.{slack_in, relation_by}
use Rattle.simplex_atoms.specs.Limits.{limits_by, limits_where}
use Rattle.simplex_explain.specs.Stated.{stated_at, stated_by, all_stated}
use Rattle.simplex.specs.Views.{has_slack, slack_count}

joined : {A : Type 0} (xs ys zs : List A) → xs ++ (ys ++ zs) ≡ (xs ++ ys) ++ zs
joined [] ys zs = refl
joined (x ∷ xs) ys zs = ap (λ l. x ∷ l) (joined xs ys zs)

-- what comes first stays, and so many of what follows
past : {A : Type 0} (xs ys : List A) (n k : ℕ) → k ≡ length xs + n → take k (xs ++ ys) ≡ xs ++ take n ys
past [] ys n k e = ap (λ j. take j ys) (omega (arith, e))
past (x ∷ xs) ys n zero e = absurd (omega (arith, e))
past (x ∷ xs) ys n (suc k) e = ap (λ l. x ∷ l) (past xs ys n k (omega (arith, e)))

none : {A : Type 0} (xs : List A) → take 0 xs ≡ []
none [] = refl
none (x ∷ xs) = refl

pub stated_append : (p : List (ℕ × Slack)) (ls ms : List Lit) → all_stated p (ls ++ ms) ≡ all_stated p ls ++ all_stated p ms
stated_append p [] ms = refl
stated_append p (l ∷ ls) ms = ap (λ bs. stated_by p l ++ bs) (stated_append p ls ms) ∙ joined (stated_by p l) (all_stated p ls) (all_stated p ms)

pub stated_more : (p : List (ℕ × Slack)) (ls : List Lit) (l : Lit) → all_stated p (ls ++ l ∷ []) ≡ all_stated p ls ++ stated_by p l
stated_more p ls l = stated_append p ls (l ∷ []) ∙ ap (λ bs. all_stated p ls ++ bs) (append-nil (stated_by p l))

pub stated_same : (p q : List (ℕ × Slack)) (ls : List Lit) → All (λ (l : Lit). slack_in q l.term ≡ slack_in p l.term) ls → all_stated q ls ≡ all_stated p ls
stated_same p q [] same = refl
stated_same p q (l ∷ ls) same = λ i. stated_at (All-head (λ (m : Lit). slack_in q m.term ≡ slack_in p m.term) l ls same i) l
    ++ stated_same p q ls (All-tail (λ (m : Lit). slack_in q m.term ≡ slack_in p m.term) l ls same) i

pub stated_first : (p : List (ℕ × Slack)) (m : ℕ) (ls : List Lit) → take (length (all_stated p (take m ls))) (all_stated p ls) ≡ all_stated p (take m ls)
stated_first p zero [] = refl
stated_first p (suc m) [] = refl
stated_first p zero (l ∷ ls) = none (all_stated p (l ∷ ls))
stated_first p (suc m) (l ∷ ls) =
    past (stated_by p l) (all_stated p ls) (length (all_stated p (take m ls))) _ (length-append (stated_by p l) (all_stated p (take m ls)))
    ∙ ap (λ bs. stated_by p l ++ bs) (stated_first p m ls)

pub first_states_less : (p : List (ℕ × Slack)) (m : ℕ) (ls : List Lit) → length (all_stated p (take m ls)) ≤ length (all_stated p ls)
first_states_less p zero [] = omega arith
first_states_less p (suc m) [] = omega arith
first_states_less p zero (l ∷ ls) = omega arith
first_states_less p (suc m) (l ∷ ls) = omega (
  arith,
  first_states_less p m ls,
  length-append (stated_by p l) (all_stated p (take m ls)),
  length-append (stated_by p l) (all_stated p ls),
)

-- how many have a place

pub count_same : (p q : List (ℕ × Slack)) (ids : List TermId) → All (λ id. slack_in q id ≡ slack_in p id) ids → slack_count q ids ≡ slack_count p ids
count_same p q [] same = refl
count_same p q (id ∷ ids) same = by
    (ap is_some (All-head (λ i. slack_in q i ≡ slack_in p i) id ids same))
    (count_same p q ids (All-tail (λ i. slack_in q i ≡ slack_in p i) id ids same))
  where
    each : (b : Bool) (xs ys : List TermId) → length xs ≡ length ys → length (cond b (id ∷ xs) xs) ≡ length (cond b (id ∷ ys) ys)
    each true xs ys e = ap suc e
    each false xs ys e = e

    by : has_slack q id ≡ has_slack p id → slack_count q ids ≡ slack_count p ids → slack_count q (id ∷ ids) ≡ slack_count p (id ∷ ids)
    by e same_rest = ap (λ b. length (cond b (id ∷ filter (has_slack q) ids) (filter (has_slack q) ids))) e
        ∙ each (has_slack p id) (filter (has_slack q) ids) (filter (has_slack p) ids) same_rest

pub count_first : (p : List (ℕ × Slack)) (n : ℕ) (ids : List TermId) → slack_count p (take n ids) ≤ slack_count p ids
count_first p zero [] = omega arith
count_first p (suc n) [] = omega arith
count_first p zero (id ∷ ids) = omega arith
count_first p (suc n) (id ∷ ids) = by (has_slack p id) (count_first p n ids)
  where
    by : (b : Bool) → slack_count p (take n ids) ≤ slack_count p ids
        → length (cond b (id ∷ filter (has_slack p) (take n ids)) (filter (has_slack p) (take n ids))) ≤ length (cond b (id ∷ filter (has_slack p) ids) (filter (has_slack p) ids))
    by true le = omega (arith, le)
    by false le = le

-- how many bounds they are

two_where : (r : Option Relation) (up : Bool) (slack : Slack) (l : Lit) → length (limits_where r up slack l) ≤ 2
two_where None up slack l = omega arith
two_where (Some below) up slack l = omega arith
two_where (Some at_most) up slack l = omega arith
two_where (Some equals) up slack l = omega arith
two_where (Some at_least) up slack l = omega arith
two_where (Some above) up slack l = omega arith

-- the literals whose term has a place
abbrev with_place : List (ℕ × Slack) → List Lit → List Lit
with_place p ls = filter (λ (l : Lit). has_slack p l.term) ls

stated_twice : (p : List (ℕ × Slack)) (ls : List Lit) → length (all_stated p ls) ≤ 2 * length (with_place p ls)
stated_twice p [] = omega arith
stated_twice p (l ∷ ls) = by (slack_in p l.term) (stated_twice p ls)
  where
    rest : List Lit
    rest = filter (λ (m : Lit). has_slack p m.term) ls

    by : (o : Option Slack) → length (all_stated p ls) ≤ 2 * length rest → length (stated_at o l ++ all_stated p ls) ≤ 2 * length (cond (is_some o) (l ∷ rest) rest)
    by None le = le
    by (Some slack) le = omega (arith, le, length-append (limits_by slack l) (all_stated p ls), two_where (relation_by slack.kind l.positive) (is_positive numbers (number_of slack.factor)) slack l)

pub stated_bounded : (p : List (ℕ × Slack)) (held : List Lit) (watched : List TermId) → IsHeldOver held watched → length (all_stated p held) ≤ 4 * slack_count p watched
stated_bounded p held watched h =
    let passes = filter_passes (λ (l : Lit). has_slack p l.term) held in
    let over = All-filter (λ (l : Lit). has_slack p l.term) (λ (l : Lit). Contains watched l.term) held h.over in
    omega (
      arith,
      stated_twice p held,
      bounded (with_place p held) (filter (has_slack p) watched) (AllPairs-filter (λ l m. l ≢ m) (λ (l : Lit). has_slack p l.term) held h.once)
          (λ k d lt. in_filter (has_slack p) watched _ (over k d lt) (passes k d lt)),
    )
