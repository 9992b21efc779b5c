-- A theory that holds and watches nothing goes with every table.
use Rattle.std.proofs.Common.{[], Contains, inl, refl, sym, subst, arith}
use Rattle.std.proofs.lemmas.List.Elements.{All-nil}
use Rattle.spec_text.proofs.Members.{none as no_member}
use Rattle.spec_causes.specs.Reached.{beginning}
use Rattle.term_core.specs.declared.ids.Lit.{Lit}
use Rattle.term_core.specs.Tables.{term_at, IsIn}
use Rattle.simplex.specs.Views.{SimplexView}
use Rattle.simplex.specs.Checks.{Suits}
use Rattle.simplex.specs.Coming.{CameBy}
use Rattle.simplex_explain.specs.Stated.{IsKnownIn}
use Rattle.combined.proofs.combined.Combined.new.Goals as goal

pub returns-clause-simplex : goal.returns-clause-simplex
returns-clause-simplex c =
    let t = c.args.table.now in
    subst (λ (x : SimplexView). Suits x t) (sym c.new-2.ensures) (record {
      is = record { right = c.no_atoms_fit.ensures t; known = All-nil (IsKnownIn t []) };
      there = All-nil (IsIn t);
      held = All-nil (λ (l : Lit). IsIn t l.term);
    })

pub returns-clause-came : goal.returns-clause-came
returns-clause-came c = λ ts. subst (λ (x : SimplexView). CameBy c.args.table.now ts 0 [] x) (sym c.new-2.ensures) (record {
  watched = λ u has. absurd (no_member u has);
  held = All-nil (λ (l : Lit). Contains ts (term_at c.args.table.now l.term));
  runs = 0;
  reached = beginning;
  few = inl (record { solves = tt; within = λ y. refl }, omega arith);
})
