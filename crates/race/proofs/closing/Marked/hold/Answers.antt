-- No literal is held of a term that was not listed.
use Rattle.std.proofs.Common.{rules, true, subst}
use Rattle.std.specs.Prelude.{Contains}
use Rattle.term_core.specs.declared.ids.Lit.{Lit}
use Rattle.congruence_closure.specs.Closure.{ClosureState}
use Rattle.race.proofs.Stating.{unlisted_not_held}
use Rattle.race.proofs.closing.Marked.hold.Goals as goal

pub hold-requires-clause-new : goal.hold-requires-clause-new
hold-requires-clause-new c there =
    let l : Lit = record { term = c.args.t; positive = true } in
    unlisted_not_held c.self.inside.closure.now.facts c.is_right.ensures.order l (c.in_ok-is_new.ensures (search rules)).1 (subst (λ (s : ClosureState). Contains s.facts.held l) c.in_ok-watch.ensures.ok there)
