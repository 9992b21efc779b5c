-- New numbers, one after the other.
use Rattle.std.proofs.Common.{◌≡◌, ◌<◌, ◌+◌, ℕ, List, [], ◌∷◌, ◌++◌, length, map, set, take, drop, get_or, sym, ap, ◌∙◌, arith, length-take, append_assoc}
use Rattle.std.proofs.lemmas.List.{map-append, take_more, drop_more, length-map}
use Rattle.std.proofs.Math.Seq.{set-append_seam, get_or-append_seam}
use Rattle.proof_log.specs.declared.premises.StepId.{StepId}
use Rattle.proof_log.specs.Keeping.{step_of}

module _ (f : StepId → StepId) (old : List StepId) (k : ℕ) (lt : k < length old) where
  abbrev x : StepId
  x = get_or old k (step_of 0)

  abbrev before : List StepId
  before = map f (take k old)

  size : length before ≡ k
  size = let e : length (take k old) ≡ k = omega (arith, length-take k old, lt) in length-map (take k old) f ∙ e

  split : before ++ drop k old ≡ before ++ x ∷ drop (k + 1) old
  split = ap (λ r. before ++ r) (drop_more old k (step_of 0) lt)

  -- what is there is the old number
  pub renamed_at : (d : StepId) → get_or (before ++ drop k old) k d ≡ x
  renamed_at d = ap (λ l. get_or l k d) split ∙ ap (λ n. get_or (before ++ x ∷ drop (k + 1) old) n d) (sym size) ∙ get_or-append_seam before x (drop (k + 1) old) d

  pub renamed_more : set (before ++ drop k old) k (f x) ≡ map f (take (k + 1) old) ++ drop (k + 1) old
  renamed_more =
      ap (λ l. set l k (f x)) split ∙ ap (λ n. set (before ++ x ∷ drop (k + 1) old) n (f x)) (sym size) ∙ set-append_seam before x (drop (k + 1) old) (f x)
      ∙ sym (append_assoc before (f x ∷ []) (drop (k + 1) old)) ∙ ap (λ l. l ++ drop (k + 1) old) (sym (map-append f (take k old) (x ∷ [])))
      ∙ ap (λ l. map f l ++ drop (k + 1) old) (sym (take_more old k (step_of 0) lt))
