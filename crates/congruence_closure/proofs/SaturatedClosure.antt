-- Where nothing is left to do, the edges are closed, and there is no conflict.
use Rattle.std.proofs.Common.{◌≡◌, ℕ, ◌<◌, true, length, slice_index, inl, inr, ◌⊎◌, sym, ap, ◌∙◌, subst, arith}
use Rattle.term_core.specs.declared.ids.Lit.{Lit}
use Rattle.class_table.specs.Classes.{AreSame}
use Rattle.explain_forest.specs.Forest.{Linked}
use Rattle.congruence_relation.specs.Relation.{Application, StatesEqual}
use Rattle.congruence_relation.specs.Edges.{roots, IsClosed}
use Rattle.congruence_relation.specs.declared.Conflict.TheVariants.{Truths, Sides}
use Rattle.congruence_closure.specs.Closure.{denial, HasNoConflict}
use Rattle.congruence_closure.specs.Listed.{nth}
use Rattle.congruence_closure.specs.Keys.{key_of, holder_at}
use Rattle.congruence_closure.specs.State.{PartsState, IsPending, HasKey, IsApart, PartsFit, IsSaturated}
use Rattle.congruence_closure.proofs.Denials.{place_there}
use Rattle.congruence_closure.proofs.Terms.{place_of, term_low, arguments_low, sides_low, states_low, same_classes}

module _ (s : PartsState) (h : PartsFit s) (done : IsSaturated s) where
  -- no listed term is to be looked at
  all_ready : (i : ℕ) → i < length s.facts.listed → (nth s.facts.listed i).takes_part ≡ true → HasKey s i × IsApart s i
  all_ready i lt part = go (h.ready i lt part)
    where
      go : IsPending s.left i ⊎ (HasKey s i × IsApart s i) → HasKey s i × IsApart s i
      go (inl (inl past)) = absurd (omega (arith, past, done.looked, lt))
      go (inl (inr c)) = absurd (omega (arith, c.1, ap length done.pending))
      go (inr r) = r

  -- terms with one key are in one class
  one_class : (i j : ℕ) → i < length s.facts.listed → j < length s.facts.listed → (nth s.facts.listed i).takes_part ≡ true → (nth s.facts.listed j).takes_part ≡ true
      → key_of s.numbers (nth s.facts.listed i).shape ≡ key_of s.numbers (nth s.facts.listed j).shape
      → AreSame s.numbers (nth s.facts.listed i).term (nth s.facts.listed j).term
  one_class i j li lj pi pj e =
      let p = (all_ready i li pi).0 in
      let q = (all_ready j lj pj).0 in
      let same : p.at ≡ q.at = h.keys.keys.once p.at q.at p.there q.there (p.is ∙ e ∙ sym q.is) in
      sym p.same ∙ ap (λ k. slice_index s.numbers (nth s.facts.listed (holder_at s.keys k)).term.0) same ∙ q.same

  pub saturated_closed : IsClosed s.facts s.edges
  saturated_closed = record {
    stated = λ l a b there states.
        let at = place_there s.facts.held l there in
        let low = states_low s h l a b there states in
        (h.joint.agree a b low.0 low.1).1 (h.stated at.0 a b (omega (arith, at.1, done.given)) (subst (λ (m : Lit). StatesEqual s.facts m a b) (sym at.2) states));
    arguments = λ x y x_there y_there heads x_part y_part same.
        let p = place_of s.facts.listed x x_there in
        let q = place_of s.facts.listed y y_there in
        let key = key_met p.0 q.0 p.1 q.1 (ap (λ (z : Application). z.shape.head) p.2 ∙ heads ∙ ap (λ (z : Application). z.shape.head) (sym q.2))
        (ap (λ (z : Application). roots s.edges z.shape.arguments) p.2 ∙ same ∙ ap (λ (z : Application). roots s.edges z.shape.arguments) (sym q.2)) in
        let p_part = ap (λ (z : Application). z.takes_part) p.2 ∙ x_part in
        let q_part = ap (λ (z : Application). z.takes_part) q.2 ∙ y_part in
        let linked = (h.joint.agree (nth s.facts.listed p.0).term (nth s.facts.listed q.0).term (term_low s h p.0 p.1) (term_low s h q.0 q.1)).1 (one_class p.0 q.0 p.1 q.1 p_part q_part key) in
        subst (λ (z : Application). Linked s.edges z.term.0 y.term.0) p.2 (subst (λ (z : Application). Linked s.edges (nth s.facts.listed p.0).term.0 z.term.0) q.2 linked);
  }
    where
      key_met : (i j : ℕ) → i < length s.facts.listed → j < length s.facts.listed → (nth s.facts.listed i).shape.head ≡ (nth s.facts.listed j).shape.head
          → roots s.edges (nth s.facts.listed i).shape.arguments ≡ roots s.edges (nth s.facts.listed j).shape.arguments
          → key_of s.numbers (nth s.facts.listed i).shape ≡ key_of s.numbers (nth s.facts.listed j).shape
      key_met i j li lj heads same =
          let arguments = same_classes s.numbers s.edges h.joint (nth s.facts.listed i).shape.arguments (nth s.facts.listed j).shape.arguments (arguments_low s h i li) (arguments_low s h j lj) same in
          λ k. record { head = heads k; arguments = arguments k }

  pub saturated_fine : HasNoConflict s.facts s.edges
  saturated_fine Truths e = done.apart e
  saturated_fine (Sides e) (denied, (a, b, equality, part, linked)) =
      let at = place_there s.facts.held (denial e) denied in
      let p = place_of s.facts.listed equality.at equality.there in
      let shape = ap (λ (x : Application). x.shape) p.2 ∙ equality.shape in
      let taken = ap (λ (x : Application). x.takes_part) p.2 ∙ part in
      let term = ap (λ (x : Application). x.term) p.2 ∙ equality.term in
      let low = sides_low s h p.0 a b p.1 shape in
      (all_ready p.0 p.1 taken).1 at.0 a b (omega (arith, at.1, done.given)) (at.2 ∙ ap denial (sym term)) shape ((h.joint.agree a b low.0 low.1).0 linked)
