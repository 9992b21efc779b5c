-- What the loop over a sum's entries tells.
use Rattle.std.proofs.Common.{◌≡◌, ℕ, Bool, true, false, List, [], ◌∷◌, ◌++◌, Some, None, ℤ, pos, negsuc, neg_ℤ, unsigned_abs, refl, sym, ◌∙◌, ap, subst, arith, append_assoc}
use Rattle.std.specs.Prelude.{Contains}
use Rattle.std.specs.Int.RustNames.{int_lt}
use Rattle.std.proofs.lemmas.Bool.Decides.{nat_tests}
use Rattle.std.proofs.lemmas.List.{append-nil}
use Rattle.std.proofs.lemmas.List.Elements.{All-contains, All-nil, All-cons}
use Rattle.std.proofs.lemmas.Option.{none-some}
use Rattle.spec_numbers.specs.Fractions.{opposite}
use Rattle.spec_numbers.specs.Bounds.{Overflow}
use Rattle.spec_numbers.proofs.Signs.{size_same}
use Rattle.spec_text.proofs.Members.{first, later}
use Rattle.spec_arithmetic.specs.Signs.{size}
use Rattle.spec_tableaux.specs.Rows.{Entry}
use Rattle.spec_tableaux.specs.Numbers.{Number, numbers, fractions}
use Rattle.simplex_bounds.specs.declared.bounds.Bound.{Bound}
use Rattle.simplex_bounds.specs.declared.bounds.Side.{Side}
use Rattle.simplex_bounds.specs.Held.{strongest}
use Rattle.simplex_bounds.proofs.Keeping.{strongest_is_held}
use Rattle.simplex_atoms.specs.declared.slack.Slack.{Slack}
use Rattle.simplex_atoms.specs.Slacks.{slack_in}
use Rattle.simplex_explain.specs.declared.weighted.Weighted.{Weighted}
use Rattle.simplex_explain.specs.Stops.{IsStatedBound, AreStated, stopping_side, IsStopped, AreAllStopped}
use Rattle.simplex_explain.specs.BoundReasons.{Footing, IsBoundReason, AreReasonsFor, IsOfHeld, AreOfHeld, OverflowsReason, OverflowsReasons}

-- sizes

turned : (z : ℤ) → int_lt z (pos 0) ≡ true → pos (unsigned_abs z) ≡ neg_ℤ z
turned (pos n) e = none n e
  where
    none : (n : ℕ) → int_lt (pos n) (pos 0) ≡ true → pos n ≡ neg_ℤ (pos n)
    none n e = grind (arith, nat_tests)
turned (negsuc n) e = refl

pub size_of_negative : (x y : Number) → numbers.is_negative x ≡ true → y ≡ numbers.opposite x → y.fraction ≡ size x.fraction
unfolding numbers fractions size opposite
size_of_negative x y h e = ap (λ (n : Number). n.fraction) e ∙ (λ i. record { num = sym (turned x.fraction.num h) i; den = x.fraction.den })

pub size_of_other : (x : Number) → numbers.is_negative x ≡ false → x.fraction ≡ size x.fraction
unfolding numbers fractions size
size_of_other x h = λ i. record { num = sym (size_same x.fraction.num h) i; den = x.fraction.den }

-- a bound that is held has a place

pub slack_there : (slack_list : List (ℕ × Slack)) (held : List Bound) (side : Side) (y : ℕ) (b : Bound) → AreStated slack_list held → strongest side y held ≡ Some b → slack_in slack_list b.literal.term ≡ None → ⊥
slack_there slack_list held side y b stated is none =
    let own = All-contains (IsStatedBound slack_list) held b stated (strongest_is_held side y held b is).0 in
    none-some own.slack (sym none ∙ own.there)

-- the loop

-- Reasons for the entries before the rest, and the stops of those in the rest.
pub record Told (f : Footing) (up : Bool) (whole rest : List (Entry Number)) (ws : List Weighted) : Type 0 where
  pub reasons : (later : List Weighted) → AreReasonsFor f up rest later → AreReasonsFor f up whole (ws ++ later)
  pub stopped : AreAllStopped f.held up rest
  pub among : (e : Entry Number) → Contains rest e → Contains whole e

pub told_first : (f : Footing) (up : Bool) (e : Entry Number) (es : List (Entry Number)) (w : Weighted) → AreAllStopped f.held up (e ∷ es) → IsBoundReason f up e w → Told f up (e ∷ es) es (w ∷ [])
told_first f up e es w st r = record { reasons = λ later h. (r, h); stopped = st.1; among = λ x c. later e es x c }

pub told_more : (f : Footing) (up : Bool) (whole rest : List (Entry Number)) (e : Entry Number) (es : List (Entry Number)) (ws : List Weighted) (w : Weighted) → rest ≡ e ∷ es → Told f up whole rest ws → IsBoundReason f up e w
    → Told f up whole es (ws ++ w ∷ [])
told_more f up whole rest e es ws w is told r =
    let now = subst (λ r. Told f up whole r ws) is told in
    record {
      reasons = λ later h. subst (AreReasonsFor f up whole) (sym (append_assoc ws (w ∷ []) later)) (now.reasons (w ∷ later) (r, h));
      stopped = now.stopped.1;
      among = λ x c. now.among x (later e es x c);
    }

pub told_stop : (f : Footing) (up : Bool) (whole rest : List (Entry Number)) (e : Entry Number) (es : List (Entry Number)) (ws : List Weighted) → rest ≡ e ∷ es → Told f up whole rest ws → IsStopped f.held up e
told_stop f up whole rest e es ws is told = (subst (λ r. Told f up whole r ws) is told).stopped.0

pub told_all : (f : Footing) (up : Bool) (whole rest : List (Entry Number)) (ws : List Weighted) → rest ≡ [] → Told f up whole rest ws → AreReasonsFor f up whole ws
told_all f up whole rest ws is told = subst (AreReasonsFor f up whole) (append-nil ws) ((subst (λ r. Told f up whole r ws) is told).reasons [] tt)

pub told_overflow : (f : Footing) (up : Bool) (whole rest : List (Entry Number)) (e : Entry Number) (es : List (Entry Number)) (ws : List Weighted) (o : Overflow) → rest ≡ e ∷ es → Told f up whole rest ws → OverflowsReason f up e o
    → OverflowsReasons f up whole o
told_overflow f up whole rest e es ws o is told s = (e, (subst (λ r. Told f up whole r ws) is told).among e (first e es), s)

pub first_overflowing : (f : Footing) (up : Bool) (e : Entry Number) (es : List (Entry Number)) (o : Overflow) → OverflowsReason f up e o → OverflowsReasons f up (e ∷ es) o
first_overflowing f up e es o s = (e, first e es, s)

-- each reason is the literal of a bound that is held
pub of_held : (f : Footing) (up : Bool) (es : List (Entry Number)) (ws : List Weighted) → AreReasonsFor f up es ws → AreOfHeld f.held ws
of_held f up [] [] r = All-nil (IsOfHeld f.held)
of_held f up [] (w ∷ ws) r = absurd r
of_held f up (e ∷ es) [] r = absurd r
of_held f up (e ∷ es) (w ∷ ws) r =
    let one : IsOfHeld f.held w = record { bound = r.0.bound; held_is = (strongest_is_held (stopping_side up e.coefficient) e.variable f.held r.0.bound r.0.stops).0; literal = r.0.literal } in
    All-cons (IsOfHeld f.held) w ws one (of_held f up es ws r.1)
