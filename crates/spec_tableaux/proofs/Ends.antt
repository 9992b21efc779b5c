-- The least-variable rule ends: over n variables it makes fewer than 3 ^ n exchanges.
use Rattle.std.proofs.Common.{◌≡◌, ℕ, zero, suc, ◌+◌, ◌^◌, ◌<◌, ◌≤◌, Bool, true, false, List, [], ◌∷◌, ◌++◌, length, refl, sym, arith, ◌==◌, ◌||◌, subst}
use Rattle.std.proofs.lemmas.Bool.Decides.{nat_tests}
use Rattle.spec_tableaux.specs.Spaces.{Space, IsSpace, IsOrdered}
use Rattle.spec_tableaux.specs.Rows.{pivot_of, row_of, is_basic, exchanged}
use Rattle.spec_tableaux.specs.SolvedForms.{IsNonbasic, IsSolved, IsPivot}
use Rattle.spec_tableaux.specs.Ranges.{Range}
use Rattle.spec_tableaux.specs.LeastVariable.{State, MakesPivots, RuleSays, exchange, Exchanges, AreUnder, IsNonbasicFeasible}
use Rattle.spec_tableaux.proofs.SolvedForms.{nonbasic_after, apart, leaving_nonbasic}
use Rattle.spec_tableaux.proofs.Steps.{basic_after, entering_basic}
use Rattle.spec_tableaux.proofs.Returns.{says_pivot, one_step, no_return, reached, Reached}

-- one exchange more at the end
pub makes_more : {A V : Type 0} (s : Space A V) (ranges : ℕ → Range V) (t u w : State A V) (es : List (ℕ × ℕ)) (b x : ℕ) → MakesPivots s ranges t es u → RuleSays s ranges u (exchange b x) → Exchanges s ranges u b x w → MakesPivots s ranges t (es ++ (b, x) ∷ []) w
makes_more s ranges t u w [] b x m says e = (subst (λ z. RuleSays s ranges z (exchange b x)) (sym m) says, (w, subst (λ z. Exchanges s ranges z b x w) (sym m) e, refl))
makes_more s ranges t u w (f ∷ es) b x m says e = (m.0, (m.1.0, m.1.1, makes_more s ranges m.1.0 u w es b x m.1.2 says e))

under_more : (r : ℕ) (es : List (ℕ × ℕ)) (b x : ℕ) → AreUnder r es → b < r → x < r → AreUnder r (es ++ (b, x) ∷ [])
under_more r [] b x u h k = (h, k, tt)
under_more r (e ∷ es) b x u h k = (u.0, u.1, under_more r es b x u.2 h k)

-- an exchange of other variables leaves y nonbasic
nonbasic_step : {A V : Type 0} (s : Space A V) (ranges : ℕ → Range V) (t m : State A V) (b x y : ℕ) → Exchanges s ranges t b x m → IsNonbasic t.rows y → (y == x) ≡ false → IsNonbasic m.rows y
nonbasic_step s ranges t m b x y e f h = subst (λ rs. IsNonbasic rs y) (sym e.rows) (nonbasic_after s (pivot_of s.numbers b x (row_of b t.rows).entries) y t.rows f (let k : (x == y) ≡ false = grind (arith, nat_tests) in k))

-- after n left it moves no more, so all is under n
tail_under : {A V : Type 0} (s : Space A V) → IsSpace s → IsOrdered s → (ranges : ℕ → Range V) (t m w u : State A V) (n x : ℕ) (done rest : List (ℕ × ℕ)) → IsSolved s.numbers t.rows → IsNonbasicFeasible s ranges t
    → RuleSays s ranges t (exchange n x) → Exchanges s ranges t n x m → x < n → MakesPivots s ranges m done w → AreUnder n done → IsNonbasic w.rows n → IsSolved s.numbers w.rows → IsNonbasicFeasible s ranges w → MakesPivots s ranges w rest u → AreUnder (suc n) rest → AreUnder n rest
tail_under s l o ranges t m w u n x done [] i k says step xn before db free iw kw makes under = tt
tail_under s l o ranges t m w u n x done (f ∷ rest) i k says step xn before db free iw kw makes under =
    let fit = says_pivot s l ranges w f.0 f.1 iw makes.0 in
    let first : (f.0 == n) ≡ false = at_first (f.0 == n) refl fit in
    let low : f.0 < n = let h = under.0 in grind (arith, nat_tests) in
    let second : (f.1 == n) ≡ false = at_second (f.1 == n) refl low in
    let high : f.1 < n = let h = under.1 in grind (arith, nat_tests) in
    let next = one_step s l o ranges w makes.1.0 f.0 f.1 iw kw makes.0 makes.1.1 in (
      low,
      high,
      tail_under s l o ranges t m makes.1.0 u n x (done ++ (f.0, f.1) ∷ []) rest i k says step xn (makes_more s ranges m w makes.1.0 done f.0 f.1 before makes.0 makes.1.1) (under_more n done f.0 f.1 db low high)
          (nonbasic_step s ranges w makes.1.0 f.0 f.1 n makes.1.1 free (let k2 : (n == f.1) ≡ false = grind (arith, nat_tests) in k2)) next.solved next.nonbasic_updated makes.1.2 under.2,
    )
  where
    at_first : (q : Bool) → (f.0 == n) ≡ q → IsPivot s.numbers w.rows f.0 f.1 → q ≡ false
    at_first true j fit = absurd (let e : f.0 ≡ n = grind (arith, nat_tests) in let b : is_basic n w.rows ≡ true = subst (λ y. is_basic y w.rows ≡ true) e fit.basic in let z = free in cc)
    at_first false j fit = refl

    at_second : (q : Bool) → (f.1 == n) ≡ q → f.0 < n → q ≡ false
    at_second true j low = absurd (let e : f.1 ≡ n = grind (arith, nat_tests) in no_return s l o ranges t m w n x f.0 done i k says step before xn db (subst (λ y. RuleSays s ranges w (exchange f.0 y)) e makes.0) low)
    at_second false j low = refl

-- 3 ^ n
abbrev pub triple : ℕ → ℕ
triple zero = 1
triple (suc n) = triple n + triple n + triple n

pub triple_is : (n : ℕ) → triple n ≡ 3 ^ n
triple_is zero = refl
triple_is (suc n) = let h = triple_is n in omega arith

-- the exchanges up to the first that moves n, that one, and the others
pub record Cut {A V : Type 0} (s : Space A V) (ranges : ℕ → Range V) (t u : State A V) (n : ℕ) (es : List (ℕ × ℕ)) : Type 0 where
  pub front : List (ℕ × ℕ)
  pub b : ℕ
  pub x : ℕ
  pub rest : List (ℕ × ℕ)
  pub w : State A V
  pub m : State A V
  pub count : length es ≡ length front + (1 + length rest)
  pub under : AreUnder n front
  pub hit : (b == n || x == n) ≡ true
  pub leaving_under : b < suc n
  pub entering_under : x < suc n
  pub first : MakesPivots s ranges t front w
  pub says : RuleSays s ranges w (exchange b x)
  pub step : Exchanges s ranges w b x m
  pub back : MakesPivots s ranges m rest u
  pub tail : AreUnder (suc n) rest

pub data Parts {A V : Type 0} (s : Space A V) (ranges : ℕ → Range V) (t u : State A V) (n : ℕ) (es : List (ℕ × ℕ)) : Type 0 where
  whole : AreUnder n es → Parts s ranges t u n es
  cut : Cut s ranges t u n es → Parts s ranges t u n es

parts : {A V : Type 0} (s : Space A V) (ranges : ℕ → Range V) (t u : State A V) (n : ℕ) (es : List (ℕ × ℕ)) → MakesPivots s ranges t es u → AreUnder (suc n) es → Parts s ranges t u n es
parts s ranges t u n [] m h = whole tt
parts s ranges t u n (f ∷ es) m h = by (f.0 == n || f.1 == n) refl (parts s ranges m.1.0 u n es m.1.2 h.2)
  where
    below_left : (f.0 == n || f.1 == n) ≡ false → f.0 < n
    below_left e = let k = h.0 in at (f.0 == n) refl e
      where
        at : (q : Bool) → (f.0 == n) ≡ q → (q || f.1 == n) ≡ false → f.0 < n
        at true j e = absurd (cc)
        at false j e = let k = h.0 in grind (arith, nat_tests)

    below_right : (f.0 == n || f.1 == n) ≡ false → f.1 < n
    below_right e = at (f.0 == n) e
      where
        at : (q : Bool) → (q || f.1 == n) ≡ false → f.1 < n
        at true e = absurd (cc)
        at false e = let k = h.1 in grind (arith, nat_tests)

    by : (q : Bool) → (f.0 == n || f.1 == n) ≡ q → Parts s ranges m.1.0 u n es → Parts s ranges t u n (f ∷ es)
    by true e p = cut (record { front = []; b = f.0; x = f.1; rest = es; w = t; m = m.1.0; count = omega arith; under = tt; hit = e; leaving_under = h.0; entering_under = h.1; first = refl; says = m.0; step = m.1.1; back = m.1.2; tail = h.2 })
    by false e (whole g) = whole (below_left e, below_right e, g)
    by false e (cut c) = cut (record {
      front = f ∷ c.front;
      b = c.b;
      x = c.x;
      rest = c.rest;
      w = c.w;
      m = c.m;
      count = let k = c.count in omega arith;
      under = (below_left e, below_right e, c.under);
      hit = c.hit;
      leaving_under = c.leaving_under;
      entering_under = c.entering_under;
      first = (m.0, (m.1.0, m.1.1, c.first));
      says = c.says;
      step = c.step;
      back = c.back;
      tail = c.tail;
    })

basic_kept : {A V : Type 0} (s : Space A V) (ranges : ℕ → Range V) (t u : State A V) (n : ℕ) (es : List (ℕ × ℕ)) → MakesPivots s ranges t es u → AreUnder n es → is_basic n t.rows ≡ true → is_basic n u.rows ≡ true
basic_kept s ranges t u n [] m h b = subst (λ z. is_basic n z.rows ≡ true) m b
basic_kept s ranges t u n (f ∷ es) m h b = basic_kept s ranges m.1.0 u n es m.1.2 h.2 (subst (λ rs. is_basic n rs ≡ true) (sym m.1.1.rows) (by (is_basic n (exchanged s.numbers f.0 f.1 t.rows)) refl))
  where
    by : (q : Bool) → is_basic n (exchanged s.numbers f.0 f.1 t.rows) ≡ q → q ≡ true
    by true e = refl
    by false e = absurd (let k : f.0 < n = h.0 in let z : is_basic n t.rows ≡ false = basic_after s (pivot_of s.numbers f.0 f.1 (row_of f.0 t.rows).entries) n t.rows e (let w : (n == f.0) ≡ false = grind (arith, nat_tests) in w) in cc)

-- what the induction has of lesser variables
pub record Bounded {A V : Type 0} (s : Space A V) (ranges : ℕ → Range V) (n : ℕ) : Type 0 where
  pub is : (t u : State A V) (es : List (ℕ × ℕ)) → IsSolved s.numbers t.rows → IsNonbasicFeasible s ranges t → MakesPivots s ranges t es u → AreUnder n es → suc (length es) ≤ triple n

-- once n left
after_leaving : {A V : Type 0} (s : Space A V) → IsSpace s → IsOrdered s → (ranges : ℕ → Range V) (n : ℕ) → Bounded s ranges n → (t m u : State A V) (x : ℕ) (rest : List (ℕ × ℕ)) → IsSolved s.numbers t.rows → IsNonbasicFeasible s ranges t
    → RuleSays s ranges t (exchange n x) → Exchanges s ranges t n x m → x < suc n → MakesPivots s ranges m rest u → AreUnder (suc n) rest → suc (length rest) ≤ triple n
after_leaving s l o ranges n bound t m u x rest i k says step xl makes under =
    let fit = says_pivot s l ranges t n x i says in
    let far : (x == n) ≡ false = apart n x t.rows fit.basic fit.nonbasic in
    let xn : x < n = grind (arith, nat_tests) in
    let free : IsNonbasic m.rows n = subst (λ rs. IsNonbasic rs n) (sym step.rows) (leaving_nonbasic s (pivot_of s.numbers n x (row_of n t.rows).entries) t.rows far) in
    let one = one_step s l o ranges t m n x i k says step in
    bound.is m u rest one.solved one.nonbasic_updated makes (tail_under s l o ranges t m m u n x [] rest i k says step xn refl tt free one.solved one.nonbasic_updated makes under)

-- the state at which n first moves
pub record At {A V : Type 0} (s : Space A V) (ranges : ℕ → Range V) (w : State A V) : Type 0 where
  pub solved : IsSolved s.numbers w.rows
  pub nonbasic_updated : IsNonbasicFeasible s ranges w

at_cut : {A V : Type 0} (s : Space A V) → IsSpace s → IsOrdered s → (ranges : ℕ → Range V) (t u : State A V) (n : ℕ) (es : List (ℕ × ℕ)) → IsSolved s.numbers t.rows → IsNonbasicFeasible s ranges t → (c : Cut s ranges t u n es) → At s ranges c.w
at_cut s l o ranges t u n es i k c = let r = reached s l o ranges t c.w c.front i k c.first in record { solved = r.solved; nonbasic_updated = r.nonbasic_updated }

-- where n leaves at the cut, few are left
leaves_at : {A V : Type 0} (s : Space A V) → IsSpace s → IsOrdered s → (ranges : ℕ → Range V) (n : ℕ) → Bounded s ranges n → (t u : State A V) (es : List (ℕ × ℕ)) → IsSolved s.numbers t.rows → IsNonbasicFeasible s ranges t → (c : Cut s ranges t u n es) → c.b ≡ n
    → suc (length c.rest) ≤ triple n
leaves_at s l o ranges n bound t u es i k c e =
    let a = at_cut s l o ranges t u n es i k c in
    after_leaving s l o ranges n bound c.w c.m u c.x c.rest a.solved a.nonbasic_updated (subst (λ b. RuleSays s ranges c.w (exchange b c.x)) e c.says) (subst (λ b. Exchanges s ranges c.w b c.x c.m) e c.step) c.entering_under c.back c.tail

-- once n entered
after_entering : {A V : Type 0} (s : Space A V) → IsSpace s → IsOrdered s → (ranges : ℕ → Range V) (n : ℕ) → Bounded s ranges n → (m u : State A V) (rest : List (ℕ × ℕ)) → IsSolved s.numbers m.rows → IsNonbasicFeasible s ranges m
    → is_basic n m.rows ≡ true → MakesPivots s ranges m rest u → AreUnder (suc n) rest → suc (length rest) ≤ triple n + triple n
after_entering s l o ranges n bound m u rest i k basic makes under = by (parts s ranges m u n rest makes under)
  where
    by : Parts s ranges m u n rest → suc (length rest) ≤ triple n + triple n
    by (whole g) = let b = bound.is m u rest i k makes g in omega arith
    by (cut c) =
        let a = at_cut s l o ranges m u n rest i k c in
        let front = bound.is m c.w c.front i k c.first c.under in
        let back = leaves_at s l o ranges n bound m u rest i k c (at (c.b == n) refl (says_pivot s l ranges c.w c.b c.x a.solved c.says)) in
        let count = c.count in omega arith
      where
        at : (q : Bool) → (c.b == n) ≡ q → IsPivot s.numbers c.w.rows c.b c.x → c.b ≡ n
        at true j fit = grind (arith, nat_tests)
        at false j fit = absurd (let e : c.x ≡ n = second (c.b == n) (c.x == n) j c.hit refl in let b : is_basic n c.w.rows ≡ true = basic_kept s ranges m c.w n c.front c.first c.under basic in let z : is_basic n c.w.rows ≡ false = subst (λ y. is_basic y c.w.rows ≡ false) e fit.nonbasic in cc)
          where
            second : (p q : Bool) → p ≡ false → (p || q) ≡ true → (c.x == n) ≡ q → c.x ≡ n
            second true q h w g = absurd (cc)
            second false q h w g = grind (arith, nat_tests)

-- over n variables there are fewer than 3 ^ n exchanges
pub rule_ends : {A V : Type 0} (s : Space A V) → IsSpace s → IsOrdered s → (ranges : ℕ → Range V) (n : ℕ) → Bounded s ranges n
rule_ends {A = B} {V = W} s l o ranges zero = record { is = none }
  where
    none : (t u : State B W) (es : List (ℕ × ℕ)) → IsSolved s.numbers t.rows → IsNonbasicFeasible s ranges t → MakesPivots s ranges t es u → AreUnder zero es → suc (length es) ≤ triple zero
    none t u [] i k m h = omega arith
    none t u (e ∷ es) i k m h = absurd (omega (arith, h.0))
rule_ends {A = B} {V = W} s l o ranges (suc n) = record { is = λ t u es i k m h. all (rule_ends s l o ranges n) t u es i k m h (parts s ranges t u n es m h) }
  where
    all : Bounded s ranges n → (t u : State B W) (es : List (ℕ × ℕ)) → IsSolved s.numbers t.rows → IsNonbasicFeasible s ranges t → MakesPivots s ranges t es u → AreUnder (suc n) es → Parts s ranges t u n es → suc (length es) ≤ triple n + triple n + triple n
    all bound t u es i k m h (whole g) = let b = bound.is t u es i k m g in omega arith
    all bound t u es i k m h (cut c) =
        let a = at_cut s l o ranges t u n es i k c in
        let front = bound.is t c.w c.front i k c.first c.under in
        let one = one_step s l o ranges c.w c.m c.b c.x a.solved a.nonbasic_updated c.says c.step in
        at (c.b == n) refl front one (says_pivot s l ranges c.w c.b c.x a.solved c.says)
      where
        at : (q : Bool) → (c.b == n) ≡ q → suc (length c.front) ≤ triple n → Reached s ranges c.w c.m → IsPivot s.numbers c.w.rows c.b c.x → suc (length es) ≤ triple n + triple n + triple n
        at true j front one fit = let back = leaves_at s l o ranges n bound t u es i k c (let e : c.b ≡ n = grind (arith, nat_tests) in e) in let count = c.count in omega arith
        at false j front one fit =
            let e : c.x ≡ n = second (c.b == n) (c.x == n) j c.hit refl in
            let basic : is_basic n c.m.rows ≡ true = subst (λ rs. is_basic n rs ≡ true) (sym c.step.rows) (subst (λ y. is_basic y (exchanged s.numbers c.b c.x c.w.rows) ≡ true) e (entering_basic s (pivot_of s.numbers c.b c.x (row_of c.b c.w.rows).entries) c.w.rows fit.basic)) in
            let back = after_entering s l o ranges n bound c.m u c.rest one.solved one.nonbasic_updated basic c.back c.tail in
            let count = c.count in omega arith
          where
            second : (p q : Bool) → p ≡ false → (p || q) ≡ true → (c.x == n) ≡ q → c.x ≡ n
            second true q h w g = absurd (cc)
            second false q h w g = grind (arith, nat_tests)
