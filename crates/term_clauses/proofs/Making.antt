-- Numbers of all that came into a log, in order.
use Rattle.std.proofs.Common.{◌≡◌, ℕ, zero, suc, ◌+◌, List, [], ◌∷◌, ◌++◌, length, map, refl, sym, ap, ap₂, ◌∙◌, subst, arith, length-append, append_assoc}
use Rattle.std.specs.List.{range_with_len}
use Rattle.std.proofs.lemmas.List.{append-nil, map-append}
use Rattle.proof_log.specs.declared.premises.StepId.{StepId}
use Rattle.proof_log.specs.Logs.{Logged}
use Rattle.term_clauses.specs.Growth.{AreAllMade}
use Rattle.term_clauses.specs.Stating.{ListsMade}

-- numbers from one on, and then those that follow
range_both : (a m n : ℕ) → range_with_len a (m + n) ≡ range_with_len a m ++ range_with_len (a + m) n
range_both a zero n =
    let none : 0 + n ≡ n = omega arith in
    let here : a ≡ a + 0 = omega arith in
    ap₂ range_with_len here none
range_both a (suc m) n =
    let more : suc m + n ≡ suc (m + n) = omega arith in
    let next : a + 1 + m ≡ a + suc m = omega arith in
    ap (range_with_len a) more ∙ ap (λ ns. a ∷ ns) (range_both (a + 1) m n) ∙ ap (λ b. a ∷ range_with_len (a + 1) m ++ range_with_len b n) next

-- nothing came
pub Makes-none : (log : List Logged) (steps : List StepId) → ListsMade log log steps steps
Makes-none log steps = record {
  more = [];
  steps = sym (append-nil steps);
  all = record { count = omega arith; order = refl };
}

-- one clause came
pub Makes-push : (old new : List Logged) (l : Logged) (id : StepId) (steps all : List StepId) → id.0 ≡ length old → new ≡ old ++ l ∷ [] → all ≡ steps ++ id ∷ [] → ListsMade old new steps all
Makes-push old new l id steps all number last pushed = record {
  more = id ∷ [];
  steps = pushed;
  all = record { count = ap length last ∙ length-append old (l ∷ []); order = ap (λ n. n ∷ []) number };
}

-- some came, then others
pub Makes-trans : (a b c : List Logged) (one two three : List StepId) → ListsMade a b one two → ListsMade b c two three → ListsMade a c one three
Makes-trans a b c one two three f g =
    let number : StepId → ℕ = λ s. s.0 in
    let m = length f.more in
    let n = length g.more in
    let both : length (f.more ++ g.more) ≡ m + n = length-append f.more g.more in
    record {
      more = f.more ++ g.more;
      steps = g.steps ∙ ap (λ ss. ss ++ g.more) f.steps ∙ append_assoc one f.more g.more;
      all = record {
        count = omega (arith, g.all.count, f.all.count, both);
        order =
            map-append number f.more g.more
            ∙ ap (λ ns. ns ++ map number g.more) f.all.order
            ∙ ap (λ ns. range_with_len (length a) m ++ ns) (g.all.order ∙ ap (λ k. range_with_len k n) f.all.count)
            ∙ sym (range_both (length a) m n)
            ∙ ap (range_with_len (length a)) (sym both);
      };
    }

-- all that were listed came, where none was listed before
pub all_made : (old new : List Logged) (before after : List StepId) → before ≡ [] → ListsMade old new before after → AreAllMade old new after
all_made old new before after none made = subst (AreAllMade old new) (sym (made.steps ∙ ap (λ ss. ss ++ made.more) none)) made.all
