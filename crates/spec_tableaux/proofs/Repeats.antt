-- Exchanges that the rule says come to no state twice, and a further one can be made.
use Rattle.std.proofs.Common.{◌≡◌, ℕ, List, [], ◌∷◌, ◌++◌, sym, ◌∙◌, subst}
use Rattle.spec_tableaux.specs.Spaces.{Space, IsSpace, IsOrdered, TellsApart}
use Rattle.spec_tableaux.specs.Rows.{exchanged, Solves}
use Rattle.spec_tableaux.specs.SolvedForms.{IsSolved, IsPivot}
use Rattle.spec_tableaux.specs.Ranges.{Range}
use Rattle.spec_tableaux.specs.LeastVariable.{State, RuleSays, Move, done, crossed, stuck, exchange, Exchanges, MakesPivots, IsNonbasicFeasible, distance, moved}
use Rattle.spec_tableaux.specs.States.{LeadsTo, RepeatsNoState, NeverReturns}
use Rattle.spec_tableaux.proofs.Steps.{exchange_made, one_exchange}
use Rattle.spec_tableaux.proofs.UpdatingNonbasic.{moved_moves}
use Rattle.spec_tableaux.proofs.Returns.{says_pivot, one_step, reached}
use Rattle.spec_tableaux.proofs.Ends.{makes_more}
use Rattle.spec_tableaux.proofs.Cycles.{no_cycle}

-- states with the same rows and the same values are equal
pub same_states : {A V : Type 0} (t u : State A V) → t.rows ≡ u.rows → ((y : ℕ) → t.point y ≡ u.point y) → t ≡ u
same_states t u r p = λ i. record { rows = r i; point = λ y. p y i }

-- an exchange leads to one state
one_state : {A V : Type 0} (s : Space A V) → IsSpace s → (ranges : ℕ → Range V) (t u w : State A V) (b x : ℕ) → IsSolved s.numbers t.rows → IsPivot s.numbers t.rows b x → Exchanges s ranges t b x u → Exchanges s ranges t b x w → u ≡ w
one_state s l ranges t u w b x i f e h = same_states u w (e.rows ∙ sym h.rows) (one_exchange s l ranges t u w b x i f.basic f.nonbasic f.entry e h)

-- An end of exchanges, seen from the state that the first of them lead to.
record Parted {A V : Type 0} (s : Space A V) (ranges : ℕ → Range V) (t u w : State A V) (xs ys : List (ℕ × ℕ)) : Type 0 where
  pub first : MakesPivots s ranges t xs u
  pub rest : MakesPivots s ranges u ys w

parted : {A V : Type 0} (s : Space A V) → IsSpace s → IsOrdered s → (ranges : ℕ → Range V) (t u w : State A V) (xs ys : List (ℕ × ℕ)) → IsSolved s.numbers t.rows → IsNonbasicFeasible s ranges t
    → MakesPivots s ranges t (xs ++ ys) w → LeadsTo s ranges t xs u → Parted s ranges t u w xs ys
parted s l o ranges t u w [] ys i k m h = record { first = h; rest = subst (λ z. MakesPivots s ranges z ys w) h m }
parted s l o ranges t u w (e ∷ xs) ys i k m h =
    let same : m.1.0 ≡ h.0 = one_state s l ranges t m.1.0 h.0 e.0 e.1 i (says_pivot s l ranges t e.0 e.1 i m.0) m.1.1 h.1 in
    let one = one_step s l o ranges t m.1.0 e.0 e.1 i k m.0 m.1.1 in
    let p = parted s l o ranges m.1.0 u w xs ys one.solved one.nonbasic_updated m.1.2 (subst (λ z. LeadsTo s ranges z xs u) (sym same) h.2) in
    record { first = (m.0, (m.1.0, m.1.1, p.first)); rest = p.rest }

-- exchanges that the rule says lead to no state twice
pub repeats_none : {A V : Type 0} (s : Space A V) → IsSpace s → IsOrdered s → (one : V) → TellsApart s one → (ranges : ℕ → Range V) (t u : State A V) (es : List (ℕ × ℕ)) → IsSolved s.numbers t.rows → IsNonbasicFeasible s ranges t
    → MakesPivots s ranges t es u → RepeatsNoState s ranges t es
repeats_none s l o one tells ranges t u es i k m before during after e v w first second same =
    let a = parted s l o ranges t v u before (during ++ after) i k (subst (λ z. MakesPivots s ranges t z u) e m) first in
    let r = reached s l o ranges t v before i k a.first in
    let b = parted s l o ranges v w u during after r.solved r.nonbasic_updated a.rest second in
    no_cycle s l o one tells ranges v w during r.solved r.nonbasic_updated b.first same

-- what the rule says leads to no state from which it came
pub returns_never : {A V : Type 0} (s : Space A V) → IsSpace s → IsOrdered s → (one : V) → TellsApart s one → (ranges : ℕ → Range V) (u : State A V) (m : Move) → RuleSays s ranges u m → NeverReturns s ranges u m
returns_never s l o one tells ranges u done says = tt
returns_never s l o one tells ranges u (crossed y) says = tt
returns_never s l o one tells ranges u (stuck b) says = tt
returns_never s l o one tells ranges u (exchange b x) says = λ t w es i k m e same.
    more es (no_cycle s l o one tells ranges t w (es ++ (b, x) ∷ []) i k (makes_more s ranges t u w es b x m says e) same)
  where
    more : (es : List (ℕ × ℕ)) → es ++ (b, x) ∷ [] ≡ [] → ⊥
    more [] e = absurd (cc)
    more (f ∷ es) e = absurd (cc)

-- an exchange that the rule says can be made
pub says_made : {A V : Type 0} (s : Space A V) → IsSpace s → (ranges : ℕ → Range V) (t : State A V) (b x : ℕ) → IsSolved s.numbers t.rows → Solves s t.point t.rows → RuleSays s ranges t (exchange b x) → (u : State A V) × Exchanges s ranges t b x u
says_made s l ranges t b x i a says =
    let f = says_pivot s l ranges t b x i says in
    let d = distance s ranges t b x in (
      record { rows = exchanged s.numbers b x t.rows; point = moved s t.rows x d t.point },
      exchange_made s l ranges t b x (moved s t.rows x d t.point) i a f.basic f.entry (moved_moves s t.rows x d t.point f.nonbasic),
    )
