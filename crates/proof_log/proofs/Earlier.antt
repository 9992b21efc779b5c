-- That the premises are before each clause, of prefixes and with one clause more.
use Rattle.std.proofs.Common.{inl, inr, ℕ, ◌<◌, List, [], ◌∷◌, ◌++◌, length, take, get_or, All, sym, subst, arith, length-append, length-take}
use Rattle.std.proofs.lemmas.List.{get_or_append_left, get_or-take}
use Rattle.std.proofs.lemmas.Bool.{cases_lt}
use Rattle.std.proofs.Math.Seq.{get_or-append_seam}
use Rattle.proof_log.specs.declared.premises.StepId.{StepId}
use Rattle.proof_log.specs.Logs.{Logged, no_logged, premises_in, AreEarlier}

-- the premises of a clause are before a number
Before : ℕ → Logged → Type 0
Before k l = All (λ (s : StepId). s.0 < k) (premises_in l)

pub earlier_front : (log : List Logged) (n : ℕ) → AreEarlier log → AreEarlier (take n log)
unfolding Before
earlier_front log n h k lt =
    subst (λ x. Before k x) (sym (get_or-take n log k no_logged (omega (arith, lt, length-take n log)))) (h k (omega (arith, lt, length-take n log)))

pub earlier_push : (log : List Logged) (l : Logged) → AreEarlier log → All (λ (s : StepId). s.0 < length log) (premises_in l) → AreEarlier (log ++ l ∷ [])
unfolding Before
earlier_push log l h last k lt =
    let at : (n : ℕ) → Type 0 = λ n. Before n (get_or (log ++ l ∷ []) n no_logged) in
    elim (cases_lt k (length log)) as (λ _. at k) [
      | inl below ↦ subst (λ x. Before k x) (sym (get_or_append_left log (l ∷ []) no_logged k below)) (h k below)
      | inr above ↦ subst at (omega (arith, lt, above, length-append log (l ∷ []))) (subst (λ x. Before (length log) x) (sym (get_or-append_seam log l [] no_logged)) last)
    ]
