-- What a log keeps fits together, with one clause more and with fewer.
use Rattle.std.proofs.Common.{◌≡◌, ℕ, zero, suc, ◌<◌, ◌≤◌, ◌+◌, List, [], ◌∷◌, ◌++◌, length, map, take, set, get_or, refl, sym, ap, ◌∙◌, subst, arith, length-append, length-take}
use Rattle.std.proofs.lemmas.List.{map-append, take-map, length-map, take_more, take_all, get_or-take, map-set, length-set, take_more_set}
use Rattle.proof_log.specs.declared.premises.StepId.{StepId}
use Rattle.proof_log.specs.declared.reach.Reach.{Reach}
use Rattle.proof_log.specs.Logs.{Logged, no_logged, premises_in, AreStepsOf, AreEarlier}
use Rattle.proof_log.specs.Reaches.{ReachView, no_reach, reach_view, reach_in, reach_of, reaches, IsKept}
use Rattle.proof_log.proofs.Reached.{reaches_push, reaches_size, reaches_take, reach_now, reach_same}
use Rattle.proof_log.proofs.Earlier.{earlier_front, earlier_push}

-- there are as many reaches as clauses
pub kept_size : (log : List Logged) (rs : List Reach) (marks : List ℕ) → IsKept log rs marks → length rs ≡ length log
kept_size log rs marks h = sym (length-map rs reach_view) ∙ ap length h.reached ∙ reaches_size log

-- with one clause more
pub kept_push : (log : List Logged) (rs : List Reach) (marks : List ℕ) (l : Logged) (r : Reach) (mark : ℕ) → IsKept log rs marks → AreStepsOf log (premises_in l)
    → reach_view r ≡ reach_of (map reach_view rs) (length log) l → IsKept (log ++ l ∷ []) (rs ++ r ∷ []) (marks ++ mark ∷ [])
kept_push log rs marks l r mark h there is = record {
  earlier = earlier_push log l h.earlier there;
  reached = map-append reach_view rs (r ∷ []) ∙ ap (λ x. map reach_view rs ++ x ∷ []) is
      ∙ ap (λ (xs : List ReachView). xs ++ reach_of xs (length log) l ∷ []) h.reached
      ∙ ap (λ n. reaches log ++ reach_of (reaches log) n l ∷ []) (sym (reaches_size log)) ∙ sym (reaches_push [] log l);
  marked = omega (arith, h.marked, length-append marks (mark ∷ []), length-append log (l ∷ []));
}

-- with the first clauses alone
pub kept_front : (log : List Logged) (rs : List Reach) (marks : List ℕ) (n : ℕ) → IsKept log rs marks → IsKept (take n log) (take n rs) (take n marks)
kept_front log rs marks n h = record {
  earlier = earlier_front log n h.earlier;
  reached = sym (take-map reach_view n rs) ∙ ap (take n) h.reached ∙ reaches_take n log;
  marked = omega (arith, h.marked, length-take n marks, length-take n log);
}

-- The reaches up to a number are those of the clauses.
pub record AreReached (log : List Logged) (rs : List Reach) (k : ℕ) : Type 0 where
  pub size : length rs ≡ length log
  pub first : take k (map reach_view rs) ≡ take k (reaches log)

-- one more
pub reached_more : (log : List Logged) (rs : List Reach) (k : ℕ) (r : Reach) → AreEarlier log → k < length log → AreReached log rs k
    → reach_view r ≡ reach_of (map reach_view rs) k (get_or log k no_logged) → AreReached log (set rs k r) (k + 1)
reached_more log rs k r earlier lt h is =
    let vs = map reach_view rs in
    let lt_vs : k < length vs = omega (arith, lt, h.size, length-map rs reach_view) in
    let lt_log : k < length (reaches log) = omega (arith, lt, reaches_size log) in
    let same : (p : StepId) → p.0 < k → reach_in vs p ≡ reach_in (reaches log) p = λ p below.
    sym (get_or-take k vs p.0 no_reach below) ∙ ap (λ xs. get_or xs p.0 no_reach) h.first ∙ get_or-take k (reaches log) p.0 no_reach below in
    let now : reach_view r ≡ get_or (reaches log) k no_reach = is ∙ reach_same vs (reaches log) k (get_or log k no_logged) (earlier k lt) same ∙ sym (reach_now log k lt earlier) in
    record {
      size = length-set rs k r ∙ h.size;
      first = ap (take (k + 1)) (map-set reach_view rs k r) ∙ take_more_set vs k (reach_view r) lt_vs ∙ (λ i. h.first i ++ now i ∷ []) ∙ sym (take_more (reaches log) k no_reach lt_log);
    }

-- what came is one clause more
pub kept_came : (log : List Logged) (rs : List Reach) (marks : List ℕ) (l : Logged) (r : Reach) (mark n : ℕ) (log_new : List Logged) (rs_new : List Reach) (marks_new : List ℕ) → IsKept log rs marks
    → AreStepsOf log (premises_in l) → n ≡ length log → reach_view r ≡ reach_of (map reach_view rs) n l
    → log_new ≡ log ++ l ∷ [] → rs_new ≡ rs ++ r ∷ [] → marks_new ≡ marks ++ mark ∷ [] → IsKept log_new rs_new marks_new
kept_came log rs marks l r mark n log_new rs_new marks_new h there size is e f g =
    subst (λ (x : List Logged). IsKept x rs_new marks_new) (sym e)
    (subst (λ (x : List Reach). IsKept (log ++ l ∷ []) x marks_new) (sym f)
    (subst (λ (x : List ℕ). IsKept (log ++ l ∷ []) (rs ++ r ∷ []) x) (sym g)
    (kept_push log rs marks l r mark h there (is ∙ ap (λ k. reach_of (map reach_view rs) k l) size))))

-- where all reaches up to the end are those of the clauses, they are the log's
pub reached_all : (log : List Logged) (rs : List Reach) (k : ℕ) → length log ≤ k → AreReached log rs k → map reach_view rs ≡ reaches log
reached_all log rs k le h =
    sym (take_all k (map reach_view rs) (omega (arith, le, h.size, length-map rs reach_view))) ∙ h.first ∙ take_all k (reaches log) (omega (arith, le, reaches_size log))

take_take : (n size : ℕ) (rs : List ReachView) → n ≤ size → take n (take size rs) ≡ take n rs
take_take zero size rs le = refl
take_take (suc n) zero rs le = absurd (omega (arith, le))
take_take (suc n) (suc size) [] le = refl
take_take (suc n) (suc size) (r ∷ rs) le = λ i. r ∷ take_take n size rs (omega (arith, le)) i

-- of a log that begins as another the first reaches are the same
pub reached_front : (old new : List Logged) (rs : List Reach) (n size : ℕ) → map reach_view rs ≡ reaches old → n ≤ size → take n new ≡ take n old
    → take n (map reach_view (take size rs)) ≡ take n (reaches new)
reached_front old new rs n size is le same =
    ap (take n) (sym (take-map reach_view size rs)) ∙ take_take n size (map reach_view rs) le ∙ ap (take n) is ∙ reaches_take n old ∙ ap reaches (sym same) ∙ sym (reaches_take n new)
