use Rattle.std.proofs.Common.{rules, ◌≡◌, ◌∷◌, ap, subst, Contains}
use Rattle.std.proofs.lemmas.Bool.{eqb-true}
use Rattle.tableau.specs.Entries.{entries_of}
use Rattle.tableau.specs.Kept.{column_at, IsNoted}
use Rattle.tableau.proofs.columns.begins_with.Goals as goal

pub returns-in-Some : goal.returns-in-Some
returns-in-Some c h columns n noted =
    let some : c.args.entries.now ≡ c.in-Some.e.now ∷ c.in-Some.field-0-1.now = search rules in
    subst (λ y. Contains (column_at columns y) n) (eqb-true c.in-Some.e.now.variable c.args.variable h) (subst (IsNoted columns n) (ap entries_of some) noted).0
