-- A state that came twice would come as often as one likes, and the rule makes no more than so many exchanges.
use Rattle.std.proofs.Common.{◌≡◌, ℕ, zero, suc, ◌+◌, ◌≤◌, Bool, true, false, List, [], ◌∷◌, ◌++◌, length, refl, sym, ◌∙◌, ap, arith, ◌==◌, ◌&&◌, ◌||◌, not, subst}
use Rattle.std.proofs.lemmas.Bool.{and_parts}
use Rattle.std.proofs.lemmas.Bool.Decides.{nat_tests}
use Rattle.spec_tableaux.specs.Spaces.{Space, IsSpace, IsOrdered, TellsApart}
use Rattle.spec_tableaux.specs.Rows.{Row, pivot_of, row_of, is_basic, exchanged, coefficient_of, Solves}
use Rattle.spec_tableaux.specs.SolvedForms.{IsSolved, IsPivot}
use Rattle.spec_tableaux.specs.Ranges.{Range, moves_by, below, above}
use Rattle.spec_tableaux.specs.LeastVariable.{State, MakesPivots, RuleSays, exchange, Exchanges, AreUnder, IsNonbasicFeasible, IsLeast, is_out, can_move, goal_of}
use Rattle.spec_tableaux.proofs.Exchanges.{exchange_keeps}
use Rattle.spec_tableaux.proofs.SolvedForms.{nonbasic_after, leaving_nonbasic, apart}
use Rattle.spec_tableaux.proofs.Steps.{one_solution, nonbasic_before, NonbasicBefore, leaving, stays}
use Rattle.spec_tableaux.proofs.Unique.{one_solved_form}
use Rattle.spec_tableaux.proofs.Returns.{says_pivot, one_step, reached}
use Rattle.spec_tableaux.proofs.Ends.{triple, rule_ends}
use Rattle.spec_tableaux.specs.States.{AreSameState}

-- Two states have the same basis, the same point and the same solutions.
record Alike {A V : Type 0} (s : Space A V) (t u : State A V) : Type 0 where
  pub basic : (y : ℕ) → is_basic y t.rows ≡ is_basic y u.rows
  pub point : (y : ℕ) → t.point y ≡ u.point y
  pub solutions : (v : ℕ → V) → Solves s v t.rows → Solves s v u.rows

-- what exchanges lead to and is the same state is alike
alike : {A V : Type 0} (s : Space A V) → IsSpace s → IsOrdered s → (ranges : ℕ → Range V) (t u : State A V) (es : List (ℕ × ℕ)) → IsSolved s.numbers t.rows → IsNonbasicFeasible s ranges t → MakesPivots s ranges t es u → AreSameState t u → Alike s t u
alike s l o ranges t u es i k m same =
    let r = reached s l o ranges t u es i k m in
    record {
      basic = same.basic;
      point = one_solution s t.point u.point u.rows r.solved (λ y f. sym (same.values y (same.basic y ∙ f))) (r.same t.point k.solves) r.nonbasic_updated.solves;
      solutions = r.same;
    }

least_same : (p q : ℕ → Bool) (x : ℕ) → ((y : ℕ) → p y ≡ q y) → IsLeast p x → IsLeast q x
least_same p q x h l = record { holds = sym (h x) ∙ l.holds; least = λ y k. sym (h y) ∙ l.least y k }

-- the rule says the same of states that are alike
says_same : {A V : Type 0} (s : Space A V) → IsSpace s → (one : V) → TellsApart s one → (ranges : ℕ → Range V) (t u : State A V) (b x : ℕ) → IsSolved s.numbers t.rows → IsSolved s.numbers u.rows → Alike s t u
    → RuleSays s ranges t (exchange b x) → RuleSays s ranges u (exchange b x)
says_same s l one tells ranges t u b x i j a says = (
  says.0,
  least_same (is_out s ranges t) (is_out s ranges u) b (λ y k. (a.basic y k) && not (not (below s (a.point y k) (ranges y).lower || above s (a.point y k) (ranges y).upper))) says.1,
  least_same (can_move s ranges t b) (can_move s ranges u b) x (λ y k. moves_by s (ranges y) (a.point y k) (below s (a.point b k) (ranges b).lower) (same y k)) says.2,
)
  where
    same : (y : ℕ) → coefficient_of s.numbers y (row_of b t.rows).entries ≡ coefficient_of s.numbers y (row_of b u.rows).entries
    same y = one_solved_form s l one tells t.rows u.rows i j a.basic a.solutions b y (and_parts (is_basic b t.rows) _ says.1.holds).0

same_bools : (p q : Bool) → (p ≡ false → q ≡ false) → (q ≡ false → p ≡ false) → p ≡ q
same_bools true true f g = refl
same_bools true false f g = g refl
same_bools false true f g = sym (f refl)
same_bools false false f g = refl

-- what is nonbasic after the exchange of one is so after that of the other
nonbasic_too : {A V : Type 0} (s : Space A V) (b x : ℕ) (rs qs : List (Row A)) → ((y : ℕ) → is_basic y rs ≡ false → is_basic y qs ≡ false) → is_basic b rs ≡ true → (x == b) ≡ false → (y : ℕ)
    → is_basic y (exchanged s.numbers b x rs) ≡ false → is_basic y (exchanged s.numbers b x qs) ≡ false
nonbasic_too s b x rs qs h m d y f = by (nonbasic_before s b x y rs m f)
  where
    by : NonbasicBefore rs b x y → is_basic y (exchanged s.numbers b x qs) ≡ false
    by (leaving e) = subst (λ z. is_basic z (exchanged s.numbers b x qs) ≡ false) (sym e) (leaving_nonbasic s (pivot_of s.numbers b x (row_of b qs).entries) qs d)
    by (stays g e) = nonbasic_after s (pivot_of s.numbers b x (row_of b qs).entries) y qs (h y g) (let k : (x == y) ≡ false = grind (arith, nat_tests) in k)

-- A step from one of two states that are alike, as one from the other.
record Step {A V : Type 0} (s : Space A V) (ranges : ℕ → Range V) (u : State A V) (b x : ℕ) (m : State A V) : Type 0 where
  pub to : State A V
  pub makes : Exchanges s ranges u b x to
  pub alike : Alike s m to

step_same : {A V : Type 0} (s : Space A V) → IsSpace s → (ranges : ℕ → Range V) (t u m : State A V) (b x : ℕ) → IsSolved s.numbers t.rows → IsSolved s.numbers u.rows → Alike s t u
    → IsPivot s.numbers t.rows b x → IsPivot s.numbers u.rows b x → Exchanges s ranges t b x m → Step s ranges u b x m
step_same s l ranges t u m b x i j a f g e = record {
  to = record { rows = exchanged s.numbers b x u.rows; point = m.point };
  makes = record {
    rows = refl;
    solves = moved m.point (subst (Solves s m.point) e.rows e.solves);
    bound = e.bound ∙ (λ k. goal_of s (ranges b) (below s (a.point b k) (ranges b).lower));
    others = λ y n d. e.others y (a.basic y ∙ n) d ∙ a.point y;
  };
  alike = record {
    basic = λ y. ap (is_basic y) e.rows ∙ same_bools _ _ (nonbasic_too s b x t.rows u.rows (λ z h. sym (a.basic z) ∙ h) f.basic far y) (nonbasic_too s b x u.rows t.rows (λ z h. a.basic z ∙ h) g.basic far y);
    point = λ y. refl;
    solutions = λ v h. moved v (subst (Solves s v) e.rows h);
  };
}
  where
    far : (x == b) ≡ false
    far = apart b x t.rows f.basic f.nonbasic

    moved : (v : ℕ → _) → Solves s v (exchanged s.numbers b x t.rows) → Solves s v (exchanged s.numbers b x u.rows)
    moved v h = (exchange_keeps s l v b x u.rows j.distinct g.basic g.entry).1 (a.solutions v ((exchange_keeps s l v b x t.rows i.distinct f.basic f.entry).0 h))

-- exchanges from one of two states that are alike can be made from the other
makes_same : {A V : Type 0} (s : Space A V) → IsSpace s → IsOrdered s → (one : V) → TellsApart s one → (ranges : ℕ → Range V) (t u m : State A V) (es : List (ℕ × ℕ)) → IsSolved s.numbers t.rows → IsNonbasicFeasible s ranges t
    → IsSolved s.numbers u.rows → IsNonbasicFeasible s ranges u → Alike s t u → MakesPivots s ranges t es m → (n : State A V) × MakesPivots s ranges u es n
makes_same s l o one tells ranges t u m [] i k j q a h = (u, refl)
makes_same s l o one tells ranges t u m (e ∷ es) i k j q a h =
    let says = says_same s l one tells ranges t u e.0 e.1 i j a h.0 in
    let next = step_same s l ranges t u h.1.0 e.0 e.1 i j a (says_pivot s l ranges t e.0 e.1 i h.0) (says_pivot s l ranges u e.0 e.1 j says) h.1.1 in
    let first = one_step s l o ranges t h.1.0 e.0 e.1 i k h.0 h.1.1 in
    let second = one_step s l o ranges u next.to e.0 e.1 j q says next.makes in
    let rest = makes_same s l o one tells ranges h.1.0 next.to m es first.solved first.nonbasic_updated second.solved second.nonbasic_updated next.alike h.1.2 in
    (rest.0, (says, (next.to, next.makes, rest.1)))

makes_both : {A V : Type 0} (s : Space A V) (ranges : ℕ → Range V) (t u w : State A V) (es fs : List (ℕ × ℕ)) → MakesPivots s ranges t es u → MakesPivots s ranges u fs w → MakesPivots s ranges t (es ++ fs) w
makes_both s ranges t u w [] fs m n = subst (λ z. MakesPivots s ranges z fs w) (sym m) n
makes_both s ranges t u w (e ∷ es) fs m n = (m.0, (m.1.0, m.1.1, makes_both s ranges m.1.0 u w es fs m.1.2 n))

-- exchanges, so many times
abbrev times : ℕ → List (ℕ × ℕ) → List (ℕ × ℕ)
times zero es = []
times (suc k) es = es ++ times k es

makes_times : {A V : Type 0} (s : Space A V) → IsSpace s → IsOrdered s → (one : V) → TellsApart s one → (ranges : ℕ → Range V) (t u : State A V) (es : List (ℕ × ℕ)) (k : ℕ) → IsSolved s.numbers t.rows → IsNonbasicFeasible s ranges t
    → MakesPivots s ranges t es u → Alike s t u → (n : State A V) × MakesPivots s ranges t (times k es) n
makes_times s l o one tells ranges t u es zero i q m a = (t, refl)
makes_times s l o one tells ranges t u es (suc k) i q m a =
    let before = makes_times s l o one tells ranges t u es k i q m a in
    let r = reached s l o ranges t u es i q m in
    let after = makes_same s l o one tells ranges t u before.0 (times k es) i q r.solved r.nonbasic_updated a before.1 in
    (after.0, makes_both s ranges t u after.0 es (times k es) m after.1)

under_more : (n m : ℕ) (es : List (ℕ × ℕ)) → n ≤ m → AreUnder n es → AreUnder m es
under_more n m [] h u = tt
under_more n m (e ∷ es) h u = (omega (arith, u.0), omega (arith, u.1), under_more n m es h u.2)

-- one past the greatest variable, or more
abbrev past : List (ℕ × ℕ) → ℕ
past [] = 0
past (e ∷ es) = suc (e.0 + e.1 + past es)

all_under : (es : List (ℕ × ℕ)) → AreUnder (past es) es
all_under [] = tt
all_under (e ∷ es) = (omega arith, omega arith, under_more (past es) (past (e ∷ es)) es (omega arith) (all_under es))

under_both : (n : ℕ) (es fs : List (ℕ × ℕ)) → AreUnder n es → AreUnder n fs → AreUnder n (es ++ fs)
under_both n [] fs u v = v
under_both n (e ∷ es) fs u v = (u.0, u.1, under_both n es fs u.2 v)

under_times : (n k : ℕ) (es : List (ℕ × ℕ)) → AreUnder n es → AreUnder n (times k es)
under_times n zero es u = tt
under_times n (suc k) es u = under_both n es (times k es) u (under_times n k es u)

longer : (es fs : List (ℕ × ℕ)) → length fs ≤ length (es ++ fs)
longer [] fs = omega arith
longer (e ∷ es) fs = omega (arith, longer es fs)

long_times : (k : ℕ) (e : ℕ × ℕ) (es : List (ℕ × ℕ)) → k ≤ length (times k (e ∷ es))
long_times zero e es = omega arith
long_times (suc k) e es = omega (arith, long_times k e es, longer es (times k (e ∷ es)))

-- no state comes twice
pub no_cycle : {A V : Type 0} (s : Space A V) → IsSpace s → IsOrdered s → (one : V) → TellsApart s one → (ranges : ℕ → Range V) (t u : State A V) (es : List (ℕ × ℕ)) → IsSolved s.numbers t.rows → IsNonbasicFeasible s ranges t
    → MakesPivots s ranges t es u → AreSameState t u → es ≡ []
no_cycle s l o one tells ranges t u [] i k m same = refl
no_cycle s l o one tells ranges t u (e ∷ es) i k m same = absurd (
    let n = past (e ∷ es) in
    let round = makes_times s l o one tells ranges t u (e ∷ es) (triple n) i k m (alike s l o ranges t u (e ∷ es) i k m same) in
    let few = (rule_ends s l o ranges n).is t round.0 (times (triple n) (e ∷ es)) i k round.1 (under_times n (triple n) (e ∷ es) (all_under (e ∷ es))) in
    omega (arith, few, long_times (triple n) e es))
