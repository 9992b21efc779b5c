use Rattle.std.proofs.Common.{ℕ, List, [], ◌≢◌, ◌<◌, ◌+◌, Contains, length, refl, subst, ◌∙◌, arith}
use Rattle.std.specs.Prelude.{◌↔◌}
use Rattle.std.proofs.lemmas.List.{get_or_default}
use Rattle.tableau.proofs.Noting.{forgets_one, forgets_all}
use Rattle.tableau.proofs.columns.forget.Goals as goal

pub columns-preserved : goal.columns-preserved
columns-preserved c =
    let low : c.columns.at < length c.columns.columns.items = let k = c.len.ensures in let w = c.columns-test.true in omega arith in
    forgets_one c.args.number c.columns.at (c.columns.at + 1) c.args.columns.now.items c.columns.columns.items _ c.remove.new.self low refl refl
    (subst (λ (z : List ℕ). (k : ℕ) → Contains c.remove.new.self k ↔ (Contains z k × (k ≢ c.args.number)))
    (c.index_mut.ensures.value ∙ get_or_default c.columns.columns.items c.columns.at c.index_mut.result.now [] low) c.remove.ensures) c.columns.invariant

pub returns : goal.returns
returns c = forgets_all c.args.number c.columns.at c.args.columns.now.items c.columns.columns.items (let k = c.len.ensures in let w = c.columns-test.false in omega arith) c.columns.invariant
