-- Sorts read one by one.
use Rattle.std.proofs.Common.{◌≡◌, List, [], ◌∷◌, ◌++◌, None, Some, refl, sym, ap, ◌∙◌, append_assoc, append-nil}
use Rattle.std.specs.Prelude.{Ok, Err}
use Rattle.spec_text.specs.Faults.{Located}
use Rattle.spec_text.specs.Answers.{Answer, ◌>>=◌}
use Rattle.spec_text.specs.Trees.{Tree, Trees, none, more}
use Rattle.spec_sorts.specs.Terms.{Sort}
use Rattle.spec_sorts.specs.Signatures.{Signature}
use Rattle.spec_reading.specs.Sorts.{sort_in, sorts_in}
use Rattle.smt_sexpr.specs.Items.{split_first}
use Rattle.smt_sexpr.proofs.Splitting.{split_end, split_more}

-- what was read before comes first
abbrev pub with_front : List Sort → Answer (List Sort) → Answer (List Sort)
with_front xs (Ok ys) = Ok (xs ++ ys)
with_front xs (Err e) = Err e

pub with_nothing : (r : Answer (List Sort)) → with_front [] r ≡ r
with_nothing (Ok ys) = refl
with_nothing (Err e) = refl

with_more : (xs : List Sort) (x : Sort) (r : Answer (List Sort)) → with_front xs (r >>= λ ys. Ok (x ∷ ys)) ≡ with_front (xs ++ x ∷ []) r
unfolding ◌>>=◌
with_more xs x (Ok ys) = ap (λ zs. Ok zs) (sym (append_assoc xs (x ∷ []) ys))
with_more xs x (Err e) = refl

module _ (s : Signature) where
  pub none_left : sorts_in s none ≡ Ok []
  unfolding sorts_in
  none_left = refl

  first_left : (t : Tree) (ts : Trees) → sorts_in s (more t ts) ≡ (sort_in s t >>= λ r. sorts_in s ts >>= λ rs. Ok (r ∷ rs))
  unfolding sorts_in
  first_left t ts = refl

  first_is : (t : Tree) (ts : Trees) (r : Sort) → sort_in s t ≡ Ok r → sorts_in s (more t ts) ≡ (sorts_in s ts >>= λ rs. Ok (r ∷ rs))
  unfolding ◌>>=◌
  first_is t ts r e = first_left t ts ∙ ap (λ a. a >>= λ q. sorts_in s ts >>= λ rs. Ok (q ∷ rs)) e

  first_fails : (t : Tree) (ts : Trees) (f : Located) → sort_in s t ≡ Err f → sorts_in s (more t ts) ≡ Err f
  unfolding ◌>>=◌
  first_fails t ts f e = first_left t ts ∙ ap (λ a. a >>= λ q. sorts_in s ts >>= λ rs. Ok (q ∷ rs)) e

  module _ (xs : List Sort) (ts : Trees) (all : Answer (List Sort)) (before : with_front xs (sorts_in s ts) ≡ all) where
    pub sorts_end : None ≡ split_first ts → all ≡ Ok xs
    sorts_end e = sym before ∙ ap (λ us. with_front xs (sorts_in s us)) (split_end ts e) ∙ ap (with_front xs) none_left ∙ ap (λ ys. Ok ys) (append-nil xs)

    module _ (t : Tree) (us : Trees) (split : Some (t, us) ≡ split_first ts) where
      next : with_front xs (sorts_in s (more t us)) ≡ all
      next = ap (λ vs. with_front xs (sorts_in s vs)) (sym (split_more ts us t split)) ∙ before

      pub sorts_more : (r : Sort) → sort_in s t ≡ Ok r → with_front (xs ++ r ∷ []) (sorts_in s us) ≡ all
      sorts_more r e = sym (with_more xs r (sorts_in s us)) ∙ ap (with_front xs) (sym (first_is t us r e)) ∙ next

      pub sorts_fail : (f : Located) → sort_in s t ≡ Err f → all ≡ Err f
      sorts_fail f e = sym next ∙ ap (with_front xs) (first_fails t us f e)
