-- A conflict of edges refutes what is held, and without one nothing does.
use Rattle.std.proofs.Common.{◌≡◌, false, List, inl, inr, refl, subst}
use Rattle.std.specs.Prelude.{Contains}
use Rattle.term_core.specs.declared.ids.TermId.{TermId}
use Rattle.term_core.specs.declared.ids.Lit.{Lit}
use Rattle.explain_forest.specs.declared.types.Edge.{Edge}
use Rattle.congruence_relation.specs.declared.Conflict.{Conflict}
use Rattle.congruence_relation.specs.declared.Conflict.TheVariants.{Truths, Sides}
use Rattle.congruence_relation.specs.Relation.{Facts, FactsAreRefuted}
use Rattle.congruence_relation.specs.Edges.{EdgesHaveReasons, IsClosed, IsConflict}
use Rattle.congruence_relation.proofs.Exact.{linked_congruent, congruent_linked}

-- the literal that denies a term
abbrev denial : TermId → Lit
denial e = record { term = e; positive = false }

-- a conflict of edges with reasons refutes what is held
pub conflict_refutes : (f : Facts) (es : List Edge) → EdgesHaveReasons f es → (c : Conflict) → IsConflict f es c → FactsAreRefuted f
conflict_refutes f es reasons Truths linked = inl (linked_congruent f es reasons f.truths.true_term f.truths.false_term linked)
conflict_refutes f es reasons (Sides e) (held, (a, b, equality, part, linked)) =
    inr (a, b, record { literal = denial e; held = held; negative = refl; equality = equality; part = part }, linked_congruent f es reasons a b linked)

-- the literal of a denied equality, by its parts
held_denial : (f : Facts) (l : Lit) → Contains f.held l → l.positive ≡ false → Contains f.held (record { term = l.term; positive = false })
held_denial f l held negative = subst (λ b. Contains f.held (record { term = l.term; positive = b })) negative held

-- where edges are closed and there is no conflict, it is not refuted
pub none_refutes : (f : Facts) (es : List Edge) → IsClosed f es → ((c : Conflict) → IsConflict f es c → ⊥) → FactsAreRefuted f → ⊥
none_refutes f es closed none (inl equal) = none Truths (congruent_linked f es closed f.truths.true_term f.truths.false_term equal)
none_refutes f es closed none (inr (a, b, denied, equal)) =
    none (Sides denied.literal.term) (held_denial f denied.literal denied.held denied.negative, (a, b, denied.equality, denied.part, congruent_linked f es closed a b equal))
