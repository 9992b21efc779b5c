-- The second is asked where the first gives no step, over the table and the log of the first.
use Rattle.std.proofs.Common.{◌≡◌, ap, sym, ◌∙◌, subst}
use Rattle.proof_log.specs.Theories.{TheoryView, Derived, IsTheoryOver}
use Rattle.proof_log.specs.Meanings.{AddsLemmas, Implies}
use Rattle.proof_log.proofs.Composed.{over_after}
use Rattle.congruence.specs.Views.{theory_of}
use Rattle.congruence.specs.contracts.theory.CongruenceTheory.TheImpl as of_congruence
use Rattle.congruence.specs.contracts.theory.CongruenceTheory.TheImpl.Laws as laws_of_congruence
use Rattle.simplex.specs.contracts.theory.SimplexTheory.TheImpl as of_simplex
use Rattle.simplex.specs.contracts.theory.SimplexTheory.TheImpl.Laws as laws_of_simplex
use Rattle.simplex.specs.Checks.{Suits}
use Rattle.combined.specs.Views.{CombinedView, both}
use Rattle.combined.proofs.Implying.{same_view, first_adds, second_implies}
use Rattle.combined.proofs.theory.CombinedTheory.implied.Goals as goal

pub invariant_of-self : goal.invariant_of-self
invariant_of-self c = c.in_err-steps.ensures.0 ∙ c.self.invariant

pub invariant_of-self-2 : goal.invariant_of-self-2
invariant_of-self-2 c =
    let before : Derived = record { table = c.implied.new.table; log = c.implied.new.log } in
    let after : Derived = record { table = c.implied-2.new.table; log = c.implied-2.new.log } in
    c.in_ok-steps.ensures.0.same ∙ c.self.invariant ∙ sym (same_view (of_simplex.ghosts.meaning c.self.inside.simplex) (of_simplex.ghosts.meaning c.implied-2.new.self) before after c.implied-2.result c.implied-2.ensures)

pub returns-then-not-is_empty : goal.returns-then-not-is_empty
returns-then-not-is_empty c =
    let t = c.args.table.now in
    let old : Derived = record { table = t; log = c.args.log.now } in
    let now : Derived = record { table = c.implied.new.table; log = c.implied.new.log } in
    let s = of_simplex.ghosts.meaning c.self.inside.simplex in
    let after = both (of_congruence.ghosts.meaning c.implied.new.self) s in
    let suits : Suits c.self.inside.simplex t = subst (λ (v : CombinedView). Suits v.simplex t) (sym c.self.view_is) c.requires.with.1 in
    let first = first_adds (of_congruence.ghosts.meaning c.self.inside.congruence) (of_congruence.ghosts.meaning c.implied.new.self) s old now (laws_of_simplex.lawful-law c.self.inside.simplex) suits c.in_ok-steps.ensures.0 in (
      subst (λ (v : CombinedView). AddsLemmas (both (of_congruence.ghosts.meaning v.congruence) (of_simplex.ghosts.meaning v.simplex)) after old now) c.self.view_is first,
      c.in_ok-steps.ensures.1,
    )

pub implied-requires-2-clause-over : goal.implied-requires-2-clause-over
implied-requires-2-clause-over c =
    let t = c.args.table.now in
    let v = theory_of c.args.self.now.congruence in
    let view : c.self.inside.simplex.theory ≡ v = sym c.self.invariant ∙ ap (λ (x : CombinedView). theory_of x.congruence) c.self.view_is in
    subst (IsTheoryOver c.implied.new.table) (sym view) (over_after t c.implied.new.table c.in_ok-steps.ensures.0.derives.table v c.requires.over)

pub implied-requires-2-clause-held : goal.implied-requires-2-clause-held
implied-requires-2-clause-held c =
    let v = theory_of c.args.self.now.congruence in
    let view : c.self.inside.simplex.theory ≡ v = sym c.self.invariant ∙ ap (λ (x : CombinedView). theory_of x.congruence) c.self.view_is in
    ap (λ (x : TheoryView). x.held) view ∙ c.requires.held

pub implied-requires-2-clause-with : goal.implied-requires-2-clause-with
implied-requires-2-clause-with c =
    let t = c.args.table.now in
    let suits : Suits c.self.inside.simplex t = subst (λ (v : CombinedView). Suits v.simplex t) (sym c.self.view_is) c.requires.with.1 in
    (laws_of_simplex.lawful-law c.self.inside.simplex).grown t c.implied.new.table c.in_ok-steps.ensures.0.derives.table suits

pub returns : goal.returns
returns c =
    let t = c.args.table.now in
    let old : Derived = record { table = t; log = c.args.log.now } in
    let now : Derived = record { table = c.implied.new.table; log = c.implied.new.log } in
    let new : Derived = record { table = c.implied-2.new.table; log = c.implied-2.new.log } in
    let x = of_congruence.ghosts.meaning c.self.inside.congruence in
    let y = of_congruence.ghosts.meaning c.implied.new.self in
    let s = of_simplex.ghosts.meaning c.self.inside.simplex in
    let r = of_simplex.ghosts.meaning c.implied-2.new.self in
    let suits : Suits c.self.inside.simplex t = subst (λ (v : CombinedView). Suits v.simplex t) (sym c.self.view_is) c.requires.with.1 in
    let over : IsTheoryOver t (theory_of c.self.inside.congruence) = subst (λ (v : CombinedView). IsTheoryOver t (theory_of v.congruence)) (sym c.self.view_is) c.requires.over in
    let both_do = second_implies x y s old now (laws_of_simplex.lawful-law c.self.inside.simplex) suits c.in_ok-steps.ensures.0 r new (laws_of_congruence.lawful-law c.implied.new.self) over (sym c.self.invariant) c.implied-2.result c.implied-2.ensures in
    subst (λ (v : CombinedView). Implies (both (of_congruence.ghosts.meaning v.congruence) (of_simplex.ghosts.meaning v.simplex)) (both y r) old new c.implied-2.result) c.self.view_is both_do
