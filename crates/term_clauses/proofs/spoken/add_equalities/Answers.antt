-- One equality comes after the other, or none.
use Rattle.std.proofs.Common.{◌≡◌, [], ◌∷◌, sym, ◌∙◌}
use Rattle.std.proofs.lemmas.Result.{on_ok_weaker}
use Rattle.spec_derivations.specs.Base.{branch_equalities}
use Rattle.term_core.specs.Tables.{term_at}
use Rattle.term_clauses.specs.Choices.{equality_at}
use Rattle.term_clauses.proofs.Arguments.{Widens-self}
use Rattle.term_clauses.proofs.Choosing.{equalities_are, equality_kept}
use Rattle.term_clauses.proofs.Speaking.{more_trans, more_same}
use Rattle.term_clauses.proofs.spoken.add_equalities.Goals as goal

pub returns-in_default-clause-wider : goal.returns-in_default-clause-wider
returns-in_default-clause-wider c = Widens-self c.args.table.now

pub returns-clause-more : goal.returns-clause-more
returns-clause-more c =
    let t = c.args.table.now in
    let u = c.add_equality.new.table in
    let v = c.add_equality-2.new.table in
    let id = c.args.id in
    let x = c.in-Some.choice in
    let is = c.in-Some.ensures in
    let start = c.args.ids.now.items in
    let some = c.add_equality.new.ids.items in
    let all = c.add_equality-2.new.ids.items in
    let one = equality_at t id x.first in
    let two = equality_at u id x.second in
    let same : one ∷ two ∷ [] ≡ branch_equalities (term_at t id) = (λ i. one ∷ equality_kept t u c.add_equality.ensures.wider id x.second is.second i ∷ []) ∙ sym (equalities_are t id x is) in
    on_ok_weaker c.add_equality-2.result
    (λ more. more_same t v start all (one ∷ two ∷ []) (branch_equalities (term_at t id)) same (more_trans t u v start some all (one ∷ []) (two ∷ []) c.in_ok-add_equality.ensures.more more))
    c.add_equality-2.ensures.more
