-- A table that keeps what it had.
use Rattle.std.proofs.Common.{◌≡◌, ◌<◌, true, ◌&&◌, List, [], ◌∷◌, length, get_or, map, refl, ap, ◌∙◌, arith}
use Rattle.spec_sorts.proofs.WellSorted.{same_sort_itself}
use Rattle.std.proofs.lemmas.List.Elements.{All-head, All-tail}
use Rattle.spec_sorts.specs.Terms.{Sort, Truth, of, And, sort_of, all_same, same_sort}
use Rattle.spec_sorts.specs.Theory.{conjunction}
use Rattle.term_core.specs.declared.ids.TermId.{TermId}
use Rattle.term_core.specs.declared.nodes.Head.TheVariants as heads
use Rattle.term_core.specs.Tables.{TableView, term_at, AreIn, clause_at, ShapeFits}
use Rattle.term_core.proofs.TermsExtend.{Extends-self, Extends-trans, IsIn-kept, term_at-kept}
use Rattle.term_reader.specs.Building.{KeepsTable, IsOf, AreOfSort}

pub keeps_same : (t : TableView) → KeepsTable t t
keeps_same t = record { extends = Extends-self t; declared = refl }

pub keeps_along : (a b c : TableView) → KeepsTable a b → KeepsTable b c → KeepsTable a c
keeps_along a b c h k = record { extends = Extends-trans a b c h.extends k.extends; declared = k.declared ∙ h.declared }

module _ (old new : TableView) (keeps : KeepsTable old new) where
  pub of_kept : (s : Sort) (id : TermId) → IsOf old s id → IsOf new s id
  of_kept s id h = (IsIn-kept old new keeps.extends id h.0, ap sort_of (term_at-kept old new keeps.extends id h.0) ∙ h.1)

  pub all_of_kept : (s : Sort) (ids : List TermId) → AreOfSort old s ids → AreOfSort new s ids
  all_of_kept s ids h k d l = of_kept s (get_or ids k d) (h k d l)

pub all_in : (t : TableView) (s : Sort) (ids : List TermId) → AreOfSort t s ids → AreIn t ids
all_in t s ids h k d l = (h k d l).0

-- the sorts of a list are one
pub all_same_of : (t : TableView) (s : Sort) (ids : List TermId) → AreOfSort t s ids → all_same s (map sort_of (clause_at t ids)) ≡ true
all_same_of t s [] h = refl
all_same_of t s (id ∷ ids) h =
    let one : sort_of (term_at t id) ≡ s = (All-head (IsOf t s) id ids h).1 in
    let rest : all_same s (map sort_of (clause_at t ids)) ≡ true = all_same_of t s ids (All-tail (IsOf t s) id ids h) in
    let here : same_sort s (sort_of (term_at t id)) ≡ true = ap (same_sort s) one ∙ same_sort_itself s in
    λ i. here i && rest i

pub one_part : (t : TableView) (ids : List TermId) (d : TermId) → length ids ≡ 1 → term_at t (get_or ids 0 d) ≡ conjunction (clause_at t ids)
one_part t [] d e = absurd (omega (arith, e))
one_part t (id ∷ []) d e = refl
one_part t (a ∷ b ∷ ids) d e = absurd (omega (arith, e))

pub and_fits : (t : TableView) (ids : List TermId) → AreOfSort t Truth ids → 0 < length ids → ShapeFits t (record { head = heads.And; arguments = ids })
and_fits t [] h some = absurd (omega (arith, some))
and_fits t (id ∷ ids) h some = record { head = tt; arguments = all_in t Truth (id ∷ ids) h; sorts = all_same_of t Truth (id ∷ ids) h }

pub several : (t : TableView) (ids : List TermId) → 0 < length ids → (length ids ≡ 1 → ⊥) → of And (clause_at t ids) ≡ conjunction (clause_at t ids)
several t [] some e = absurd (omega (arith, some))
several t (id ∷ []) some e = absurd (e refl)
several t (a ∷ b ∷ ids) some e = refl
