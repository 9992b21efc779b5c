-- The reaches of logs, one clause after the other.
use Rattle.std.proofs.Common.{inl, inr, ◌≡◌, ℕ, suc, ◌+◌, ◌<◌, ◌≤◌, List, [], ◌∷◌, ◌++◌, length, take, drop, get_or, All, refl, sym, ap, ◌∙◌, arith, length-append, length-take}
use Rattle.std.proofs.lemmas.Bool.{cases_lt}
use Rattle.std.proofs.lemmas.List.{get_or_append_left, get_or_push, drop_more, take-append-drop, take-append-le, take_all}
use Rattle.term_core.specs.declared.ids.TermId.{TermId}
use Rattle.spec_numbers.specs.Fractions.{Fraction}
use Rattle.spec_proofs.specs.declared.Rule.{Rule}
use Rattle.proof_log.specs.declared.premises.StepId.{StepId}
use Rattle.proof_log.specs.Logs.{Logged, assumed, stepped, no_logged, premises_in, AreEarlier}
use Rattle.proof_log.specs.Reaches.{ReachView, no_reach, reach_in, of_terms, over_from, reach_of, reaches_after, reaches, reach_at}
use Rattle.proof_log.proofs.Most.{over_same}

pub reaches_push : (rs : List ReachView) (ls : List Logged) (l : Logged) → reaches_after rs (ls ++ l ∷ []) ≡ reaches_after rs ls ++ reach_of (reaches_after rs ls) (length (reaches_after rs ls)) l ∷ []
reaches_push rs [] l = refl
reaches_push rs (x ∷ ls) l = reaches_push (rs ++ reach_of rs (length rs) x ∷ []) ls l

reaches_length : (rs : List ReachView) (ls : List Logged) → length (reaches_after rs ls) ≡ length rs + length ls
reaches_length rs [] = omega arith
reaches_length rs (x ∷ ls) =
    let more = rs ++ reach_of rs (length rs) x ∷ [] in
    let e : length more ≡ length rs + 1 = length-append rs (reach_of rs (length rs) x ∷ []) in
    omega (arith, e, reaches_length more ls)

pub reaches_size : (log : List Logged) → length (reaches log) ≡ length log
reaches_size log = omega (arith, reaches_length [] log)

reaches_join : (rs : List ReachView) (xs ys : List Logged) → reaches_after rs (xs ++ ys) ≡ reaches_after (reaches_after rs xs) ys
reaches_join rs [] ys = refl
reaches_join rs (x ∷ xs) ys = reaches_join (rs ++ reach_of rs (length rs) x ∷ []) xs ys

-- the reaches that were there stay
reaches_front : (rs : List ReachView) (ls : List Logged) (k : ℕ) → k < length rs → get_or (reaches_after rs ls) k no_reach ≡ get_or rs k no_reach
reaches_front rs [] k lt = refl
reaches_front rs (x ∷ ls) k lt =
    let more = rs ++ reach_of rs (length rs) x ∷ [] in
    let e : length more ≡ length rs + 1 = length-append rs (reach_of rs (length rs) x ∷ []) in
    reaches_front more ls k (omega (arith, lt, e)) ∙ get_or_append_left rs (reach_of rs (length rs) x ∷ []) no_reach k lt

take_front : (n : ℕ) (rs : List ReachView) (ls : List Logged) → n ≤ length rs → take n (reaches_after rs ls) ≡ take n rs
take_front n rs [] le = refl
take_front n rs (x ∷ ls) le =
    let more = rs ++ reach_of rs (length rs) x ∷ [] in
    let e : length more ≡ length rs + 1 = length-append rs (reach_of rs (length rs) x ∷ []) in
    take_front n more ls (omega (arith, le, e)) ∙ take-append-le n rs (reach_of rs (length rs) x ∷ []) le

-- the reaches of the first clauses are the first reaches
pub reaches_take : (n : ℕ) (log : List Logged) → take n (reaches log) ≡ reaches (take n log)
reaches_take n log =
    let whole = reaches_size log in
    elim (cases_lt n (length log)) as (λ _. take n (reaches log) ≡ reaches (take n log)) [
      | inl below ↦
          let front = reaches (take n log) in
          let size : length front ≡ n = omega (arith, reaches_size (take n log), length-take n log, below) in
          ap (λ ls. take n (reaches ls)) (sym (take-append-drop n log)) ∙ ap (take n) (reaches_join [] (take n log) (drop n log))
          ∙ take_front n front (drop n log) (omega (arith, size)) ∙ take_all n front (omega (arith, size))
      | inr above ↦ take_all n (reaches log) (omega (arith, above, whole)) ∙ ap reaches (sym (take_all n log (omega (arith, above))))
    ]

-- the reach by those of the premises alone
pub reach_same : (rs ss : List ReachView) (n : ℕ) (l : Logged) → All (λ (p : StepId). p.0 < n) (premises_in l) → ((p : StepId) → p.0 < n → reach_in rs p ≡ reach_in ss p)
    → reach_of rs n l ≡ reach_of ss n l
reach_same rs ss n (assumed id) before same = refl
reach_same rs ss n (stepped r ps qs c) before same = over_same rs ss (of_terms c) ps (λ k d lt. same (get_or ps k d) (before k d lt))

module _ (log : List Logged) (n : ℕ) (lt : n < length log) where
  -- those of the first n clauses
  abbrev front : List ReachView
  front = reaches (take n log)

  size : length front ≡ n
  size = omega (arith, reaches_size (take n log), length-take n log, lt)

  abbrev next : ReachView
  next = reach_of front (length front) (get_or log n no_logged)

  split : reaches log ≡ reaches_after (front ++ next ∷ []) (drop (n + 1) log)
  split = ap reaches (sym (take-append-drop n log)) ∙ reaches_join [] (take n log) (drop n log) ∙ ap (reaches_after front) (drop_more log n no_logged lt)

  reach_is : get_or (reaches log) n no_reach ≡ reach_of front n (get_or log n no_logged)
  reach_is =
      let e : length (front ++ next ∷ []) ≡ n + 1 = omega (arith, length-append front (next ∷ []), size) in
      ap (λ rs. get_or rs n no_reach) split ∙ reaches_front (front ++ next ∷ []) (drop (n + 1) log) n (omega (arith, e)) ∙ get_or_push front next no_reach n size
      ∙ ap (λ k. reach_of front k (get_or log n no_logged)) size

  before : (p : StepId) → p.0 < n → reach_in front p ≡ reach_at log p
  before p below =
      let e : length (front ++ next ∷ []) ≡ n + 1 = omega (arith, length-append front (next ∷ []), size) in
      sym (ap (λ rs. get_or rs p.0 no_reach) split ∙ reaches_front (front ++ next ∷ []) (drop (n + 1) log) p.0 (omega (arith, e, below)) ∙ get_or_append_left front (next ∷ []) no_reach p.0 (omega (arith, size, below)))

  -- the reach of a clause is by those of its premises
  pub reach_now : AreEarlier log → get_or (reaches log) n no_reach ≡ reach_of (reaches log) n (get_or log n no_logged)
  reach_now earlier = reach_is ∙ reach_same front (reaches log) n (get_or log n no_logged) (earlier n lt) before

  pub of_assumed : AreEarlier log → (id : TermId) → get_or log n no_logged ≡ assumed id → get_or (reaches log) n no_reach ≡ record { terms = suc id.0; assumes = suc n }
  of_assumed earlier id is = reach_now earlier ∙ ap (reach_of (reaches log) n) is

  pub of_stepped : AreEarlier log → (r : Rule) (ps : List StepId) (qs : List Fraction) (c : List TermId) → get_or log n no_logged ≡ stepped r ps qs c
      → get_or (reaches log) n no_reach ≡ over_from (reaches log) (of_terms c) ps
  of_stepped earlier r ps qs c is = reach_now earlier ∙ ap (reach_of (reaches log) n) is
