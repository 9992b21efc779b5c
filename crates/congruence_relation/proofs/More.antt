-- What is congruent, and what is a reason, stays so where there are more facts.
use Rattle.std.proofs.Common.{inl, inr, List, [], ◌∷◌, subst}
use Rattle.term_core.specs.declared.ids.TermId.{TermId}
use Rattle.term_core.specs.declared.ids.Lit.{Lit}
use Rattle.explain_forest.specs.declared.types.Edge.{Edge}
use Rattle.explain_forest.specs.declared.types.Label.{Label}
use Rattle.explain_forest.specs.declared.types.Label.TheVariants.{Held, Arguments}
use Rattle.congruence_relation.specs.Relation.{Facts, truth_of, IsEquality, StatesEqual, decides, equates, IsCongruentIn, AreCongruentIn, stated, itself, turned, joined, by_arguments, none, more, IsDenied, AreMore}
use Rattle.congruence_relation.specs.Edges.{IsEdgeReason, EdgesHaveReasons}

module _ (f g : Facts) (grows : AreMore f g) where
  pub equality_more : (e a b : TermId) → IsEquality f.listed e a b → IsEquality g.listed e a b
  equality_more e a b q = record { at = q.at; there = grows.listed q.at q.there; term = q.term; shape = q.shape }

  pub states_more : (l : Lit) (a b : TermId) → StatesEqual f l a b → StatesEqual g l a b
  states_more l _ _ decides = subst (λ ts. StatesEqual g l l.term (truth_of ts l.positive)) grows.truths decides
  states_more l a b (equates _ _ positive q) = equates a b positive (equality_more l.term a b q)

  mutual
    pub congruent_more : (a b : TermId) → IsCongruentIn f a b → IsCongruentIn g a b
    congruent_more a b (stated l _ _ there s) = stated l a b (grows.held l there) (states_more l a b s)
    congruent_more a _ (itself _) = itself a
    congruent_more b a (turned _ _ e) = turned a b (congruent_more a b e)
    congruent_more a c (joined _ b _ d e) = joined a b c (congruent_more a b d) (congruent_more b c e)
    congruent_more _ _ (by_arguments x y x_there y_there heads x_part y_part es) =
        by_arguments x y (grows.listed x x_there) (grows.listed y y_there) heads x_part y_part (all_more x.shape.arguments y.shape.arguments es)

    pub all_more : (xs ys : List TermId) → AreCongruentIn f xs ys → AreCongruentIn g xs ys
    all_more _ _ none = none
    all_more _ _ (more a b xs ys e es) = more a b xs ys (congruent_more a b e) (all_more xs ys es)

  pub denied_more : (a b : TermId) → IsDenied f a b → IsDenied g a b
  unfolding equality_more
  denied_more a b d = record { literal = d.literal; held = grows.held d.literal d.held; negative = d.negative; equality = equality_more d.literal.term a b d.equality; part = d.part }

  pub reason_more : (es : List Edge) (e : Edge) (l : Label) → IsEdgeReason f es e l → IsEdgeReason g es e l
  reason_more es e (Held l) (there, inl s) = (grows.held l there, inl (states_more l e.a e.b s))
  reason_more es e (Held l) (there, inr s) = (grows.held l there, inr (states_more l e.b e.a s))
  reason_more es e (Arguments a b) (a_is, b_is, m) = (
    a_is,
    b_is,
    record {
      one = m.one;
      other = m.other;
      one_there = grows.listed m.one m.one_there;
      other_there = grows.listed m.other m.other_there;
      one_is = m.one_is;
      other_is = m.other_is;
      one_part = m.one_part;
      other_part = m.other_part;
      heads = m.heads;
      arguments = m.arguments;
    },
  )

  pub reasons_more : (es : List Edge) → EdgesHaveReasons f es → EdgesHaveReasons g es
  reasons_more [] ok = tt
  reasons_more (e ∷ es) ok = (reason_more es e e.label ok.0, reasons_more es ok.1)
