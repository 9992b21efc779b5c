-- Numbers of classes, also of terms that are not there.
use Rattle.std.proofs.Common.{◌≡◌, ℕ, ◌<◌, ◌≤◌, ◌⊎◌, inl, inr, ◌↔◌, List, length, map, get_or, sym, ap, ◌∙◌, subst, arith}
use Rattle.std.proofs.lemmas.Bool.{cases_lt}
use Rattle.std.proofs.lemmas.List.{get_or_default, get_or_past, get_or-map}
use Rattle.term_core.specs.declared.ids.TermId.{TermId}
use Rattle.class_table.specs.Classes.{class_at}
use Rattle.explain_forest.specs.declared.types.Edge.{Edge}
use Rattle.explain_forest.specs.Forest.{root, Linked}
use Rattle.congruence_relation.specs.Relation.{Facts, IsCongruentIn}
use Rattle.congruence_relation.specs.Edges.{EdgesHaveReasons, IsClosed}
use Rattle.congruence_relation.proofs.Exact.{linked_congruent, congruent_linked}
use Rattle.congruence_closure.specs.Closure.{TellClasses}
use Rattle.congruence_closure.specs.Listed.{no_term_id}
use Rattle.congruence_closure.specs.State.{AreJoint, class_number}
use Rattle.congruence_closure.proofs.Terms.{linked_past}

-- a term that is there has the number of its class
pub class_there : (numbers : List ℕ) (t : TermId) → t.0 < length numbers → class_number numbers t ≡ class_at numbers t
class_there numbers t lt = get_or_default numbers t.0 t.0 0 lt

-- and one that is not has its own
pub class_past : (numbers : List ℕ) (t : TermId) → length numbers ≤ t.0 → class_number numbers t ≡ t.0
class_past numbers t past = get_or_past numbers t.0 t.0 past

-- so terms of one number are linked, and the other way round
pub numbers_link : (numbers : List ℕ) (es : List Edge) → AreJoint numbers es → (t u : TermId) → (class_number numbers t ≡ class_number numbers u) ↔ Linked es t.0 u.0
numbers_link numbers es joint t u = go (cases_lt t.0 (length numbers)) (cases_lt u.0 (length numbers))
  where
    -- one that is there has another number than one that is not
    apart : (x y : TermId) → x.0 < length numbers → length numbers ≤ y.0 → class_number numbers x ≡ class_number numbers y → ⊥
    apart x y low past e =
        let same : class_at numbers x ≡ y.0 = sym (class_there numbers x low) ∙ e ∙ class_past numbers y past in
        omega (arith, same, past, (joint.live x low).0)

    -- and is not linked to it
    unlinked : (x y : TermId) → x.0 < length numbers → length numbers ≤ y.0 → Linked es y.0 x.0 → ⊥
    unlinked x y low past linked =
        let same : y.0 ≡ x.0 = ap (λ (z : TermId). z.0) (linked_past numbers es y x joint past linked) in
        omega (arith, same, past, low)

    go : (t.0 < length numbers) ⊎ (length numbers ≤ t.0) → (u.0 < length numbers) ⊎ (length numbers ≤ u.0) → (class_number numbers t ≡ class_number numbers u) ↔ Linked es t.0 u.0
    go (inl p) (inl q) =
        let agree = joint.agree t u p q in
        (λ e. agree.1 (sym (class_there numbers t p) ∙ e ∙ class_there numbers u q), λ linked. class_there numbers t p ∙ agree.0 linked ∙ sym (class_there numbers u q))
    go (inl p) (inr q) = (λ e. absurd (apart t u p q e), λ linked. absurd (unlinked t u p q (sym linked)))
    go (inr p) (inl q) = (λ e. absurd (apart u t q p (sym e)), λ linked. absurd (unlinked u t q p linked))
    go (inr p) (inr q) = (
      λ e. ap (root es) (sym (class_past numbers t p) ∙ e ∙ class_past numbers u q),
      λ linked. ap (class_number numbers) (linked_past numbers es t u joint p linked),
    )

-- the numbers of some terms tell which of them are linked
pub numbers_tell : (numbers : List ℕ) (es : List Edge) → AreJoint numbers es → (terms : List TermId) → TellClasses (λ t u. Linked es t.0 u.0) terms (map (class_number numbers) terms)
numbers_tell numbers es joint terms i j i_low j_low =
    let link = numbers_link numbers es joint (get_or terms i no_term_id) (get_or terms j no_term_id) in
    let one = get_or-map (class_number numbers) terms i no_term_id 0 i_low in
    let other = get_or-map (class_number numbers) terms j no_term_id 0 j_low in
    (λ e. link.0 (sym one ∙ e ∙ other), λ linked. one ∙ link.1 linked ∙ sym other)

-- such numbers, where edges have reasons
module _ (f : Facts) (numbers : List ℕ) (es : List Edge) (joint : AreJoint numbers es) (reasons : EdgesHaveReasons f es) (terms : List TermId) (ns : List ℕ) (are : ns ≡ map (class_number numbers) terms) where
  tell : TellClasses (λ t u. Linked es t.0 u.0) terms ns
  tell = subst (TellClasses (λ t u. Linked es t.0 u.0) terms) (sym are) (numbers_tell numbers es joint terms)

  -- are one of congruent terms alone
  pub numbers_sound : (i j : ℕ) → i < length terms → j < length terms → get_or ns i 0 ≡ get_or ns j 0 → IsCongruentIn f (get_or terms i no_term_id) (get_or terms j no_term_id)
  numbers_sound i j i_low j_low e = linked_congruent f es reasons (get_or terms i no_term_id) (get_or terms j no_term_id) ((tell i j i_low j_low).0 e)

  -- and of all of them, where edges are closed
  pub numbers_exact : IsClosed f es → TellClasses (IsCongruentIn f) terms ns
  numbers_exact closed i j i_low j_low = (numbers_sound i j i_low j_low, λ h. (tell i j i_low j_low).1 (congruent_linked f es closed (get_or terms i no_term_id) (get_or terms j no_term_id) h))
