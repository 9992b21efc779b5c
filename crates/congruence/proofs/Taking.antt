-- Which terms take part, by their heads.
use Rattle.std.proofs.Common.{◌≡◌, ◌≤◌, true, false, not, List, [], ◌∷◌, length, get_or, refl, sym, ap, arith}
use Rattle.spec_sorts.specs.Terms.{Truth, terms_of, of, same_sort, sort_of, second_sort}
use Rattle.spec_equality.specs.Congruence.{takes_part}
use Rattle.term_core.specs.declared.ids.TermId.{TermId}
use Rattle.term_core.specs.declared.nodes.Head.{Head as NodeHead}
use Rattle.term_core.specs.declared.nodes.Head.TheVariants as heads
use Rattle.term_core.specs.Tables.{TableView, term_at, clause_at, head_meant, Shape, shape_term}

-- the sort of the second of two numbers or more
pub second_of : (t : TableView) (ids : List TermId) (d : TermId) → 2 ≤ length ids → second_sort (terms_of (clause_at t ids)) ≡ sort_of (term_at t (get_or ids 1 d))
unfolding second_sort
second_of t [] d long = absurd (omega (arith, long))
second_of t (x ∷ []) d long = absurd (omega (arith, long))
second_of t (x ∷ y ∷ ids) d long = refl

-- fewer have none
pub no_second : (t : TableView) (ids : List TermId) → length ids ≤ 1 → not (same_sort (second_sort (terms_of (clause_at t ids))) Truth) ≡ false
unfolding second_sort
no_second t [] short = refl
no_second t (x ∷ []) short = refl
no_second t (x ∷ y ∷ ids) short = absurd (omega (arith, short))

module _ (t : TableView) (s : Shape) where
  pub by_head : (h : NodeHead) → s.head ≡ h → takes_part (shape_term t (record { head = h; arguments = s.arguments })) ≡ takes_part (shape_term t s)
  by_head h e = ap (λ (g : NodeHead). takes_part (of (head_meant t g) (clause_at t s.arguments))) (sym e)

  -- connectives take none, and all heads but these and two others take it
  pub others_part : (h : NodeHead) → (h ≡ heads.And → ⊥) → (h ≡ heads.Or → ⊥) → (h ≡ heads.Xor → ⊥) → (h ≡ heads.Implies → ⊥) → (h ≡ heads.Equal → ⊥) → (h ≡ heads.Ite → ⊥)
      → true ≡ takes_part (of (head_meant t h) (clause_at t s.arguments))
  others_part heads.And a o x i e c = absurd (a refl)
  others_part heads.Or a o x i e c = absurd (o refl)
  others_part heads.Xor a o x i e c = absurd (x refl)
  others_part heads.Implies a o x i e c = absurd (i refl)
  others_part heads.Equal a o x i e c = absurd (e refl)
  others_part heads.Ite a o x i e c = absurd (c refl)
  others_part _ a o x i e c = refl
