-- Reasons of bounds of held literals are held, and show that no point keeps these.
use Rattle.std.proofs.Common.{ℕ, List, map, All, Contains, sym, subst}
use Rattle.std.proofs.lemmas.List.Elements.{All-contains, All-map, recursion_from_All}
use Rattle.spec_text.proofs.Members.{to_image}
use Rattle.spec_simplex.specs.Points.{KeepsLiteral, IsInfeasible}
use Rattle.spec_simplex.specs.Weights.{IsSummand}
use Rattle.spec_simplex.proofs.Infeasible.{no_point}
use Rattle.term_core.specs.declared.ids.Lit.{Lit}
use Rattle.term_core.specs.Tables.{TableView, literal_at, term_at}
use Rattle.proof_log.specs.Theories.{TheoryView, IsAtomIn, IsTheoryOver, terms_watched}
use Rattle.simplex_bounds.specs.declared.bounds.Bound.{Bound}
use Rattle.simplex_atoms.specs.declared.slack.Slack.{Slack}
use Rattle.simplex_explain.specs.declared.weighted.Weighted.{Weighted}
use Rattle.simplex_explain.specs.Reasons.{Refutes, AreAtomReasons, AreHeld, literals_meant}
use Rattle.simplex_explain.specs.BoundReasons.{IsOfHeld, AreOfHeld}
use Rattle.simplex_explain.specs.Stated.{AreBoundsOf}
use Rattle.simplex_explain.proofs.StatedBounds.{all_from, literals_held}

pub reasons_held : (slack_list : List (ℕ × Slack)) (held : List Lit) (bounds : List Bound) (rs : List Weighted) → AreBoundsOf slack_list held bounds → AreOfHeld bounds rs → AreHeld held rs
reasons_held slack_list held bounds rs are of = all_from (λ (r : Weighted). Contains held r.literal) rs by
  where
    by : (r : Weighted) → Contains rs r → Contains held r.literal
    by r c =
        let own = All-contains (IsOfHeld bounds) rs r of c in
        subst (Contains held) (sym own.literal) (literals_held slack_list held bounds are own.bound own.held_is)

pub reasons_watched : (t : TableView) (view : TheoryView) (slack_list : List (ℕ × Slack)) (bounds : List Bound) (rs : List Weighted) → AreBoundsOf slack_list view.held bounds → AreOfHeld bounds rs
    → IsTheoryOver t view → All (λ (l : Lit). Contains view.watched l.term) view.held → AreAtomReasons (terms_watched t view) t rs
reasons_watched t view slack_list bounds rs are of over watched = all_from (λ (r : Weighted). IsAtomIn t r.literal.term × Contains (terms_watched t view) (term_at t r.literal.term)) rs by
  where
    by : (r : Weighted) → Contains rs r → IsAtomIn t r.literal.term × Contains (terms_watched t view) (term_at t r.literal.term)
    by r c =
        let held : Contains view.held r.literal = All-contains (λ (r : Weighted). Contains view.held r.literal) rs r (reasons_held slack_list view.held bounds rs are of) c in (
          All-contains (λ (l : Lit). IsAtomIn t l.term) view.held r.literal over.atoms held,
          to_image (term_at t) view.watched r.literal.term (All-contains (λ (l : Lit). Contains view.watched l.term) view.held r.literal watched held),
        )

pub infeasible : (t : TableView) (held : List Lit) (rs : List Weighted) → Refutes t rs → AreHeld held rs → IsInfeasible (map (literal_at t) held)
infeasible t held rs refutes are p meets =
    no_point refutes.summands (recursion_from_All IsSummand refutes.summands refutes.fit) refutes.contradiction p
    (recursion_from_All (KeepsLiteral p) _ (subst (All (KeepsLiteral p)) (sym refutes.literals) kept))
  where
    by : (r : Weighted) → Contains rs r → KeepsLiteral p (literal_at t r.literal)
    by r c = All-contains (KeepsLiteral p) (map (literal_at t) held) (literal_at t r.literal) meets
        (to_image (literal_at t) held r.literal (All-contains (λ (r : Weighted). Contains held r.literal) rs r are c))

    kept : All (KeepsLiteral p) (literals_meant t rs)
    kept = All-map (KeepsLiteral p) (λ (r : Weighted). literal_at t r.literal) rs (all_from (λ (r : Weighted). KeepsLiteral p (literal_at t r.literal)) rs by)
