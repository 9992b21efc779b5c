-- Atoms fit an assignment by how many variables it has and the rows that were added.
use Rattle.std.proofs.Common.{◌≡◌, ℕ, ◌≤◌, List, sym, ◌∙◌, subst}
use Rattle.std.specs.Prelude.{Contains}
use Rattle.std.proofs.lemmas.List.Elements.{All-weaker}
use Rattle.spec_tableaux.specs.Spaces.{as_space}
use Rattle.spec_tableaux.specs.Rows.{Row, Solves}
use Rattle.spec_tableaux.specs.Numbers.{Number, numbers}
use Rattle.term_core.specs.Tables.{TableView}
use Rattle.simplex_bounds.specs.Held.{BoundsView}
use Rattle.simplex_check.specs.Assignments.{AssignmentView}
use Rattle.simplex_atoms.specs.Grounded.{AreGrounded}
use Rattle.simplex_atoms.specs.Atoms.{AtomsView, ground_of, IsSum, AtomsFit, HaveSlacks}

pub fit : (t : TableView) (a : AtomsView) (b c : AssignmentView) (bounds : BoundsView) → AtomsFit t a b bounds → c.tableau.variables ≡ b.tableau.variables
    → c.tableau.listed ≡ b.tableau.listed → AtomsFit t a c bounds
fit t a b c bounds right v l = record {
  counted = right.counted ∙ sym v;
  within = subst (λ (n : ℕ). bounds.variables ≤ n) (sym v) right.within;
  owners_in = right.owners_in;
  once = right.once;
  grounded = subst (λ (n : ℕ). AreGrounded a.owners 0 c.tableau.listed n) (sym v) (subst (λ (rs : List (Row Number)). AreGrounded a.owners 0 rs b.tableau.variables) (sym l) right.grounded);
  sums = record {
    each = All-weaker (IsSum (ground_of a.owners b)) (IsSum (ground_of a.owners c)) (λ x m. record {
      variable = m.variable;
      sum = λ u h. m.sum u (subst (λ (rs : List (Row Number)). Solves (as_space numbers) u rs) l h);
    }) a.sums right.sums.each;
    rows = λ r there. right.sums.rows r (subst (λ (rs : List (Row Number)). Contains rs r) l there);
  };
  are_slacked = subst (λ (rs : List (Row Number)). HaveSlacks (record { table = t; owners = a.owners; listed = rs }) bounds.variables a.slack_list) (sym l) right.are_slacked;
}
