-- By the literals of the clause and of the steps.
use Rattle.std.proofs.Common.{inl, inr, List, map, Contains, All, subst}
use Rattle.std.specs.Prelude.{Option, MatchOption}
use Rattle.spec_derivations.specs.ExactChains.{IsExactResolvent}
use Rattle.term_core.specs.declared.ids.Lit.{Lit}
use Rattle.clause_literals.specs.Literals.{lit_complement, lists}
use Rattle.congruence_explain.specs.Choosing.{ComesFrom, IsNotFound}
use Rattle.congruence_explain.specs.Needing.{IsRefuted, standing}
use Rattle.congruence_explain.proofs.Whole.{not_refuted, comes_whole, gives_fewer, told_more}
use Rattle.congruence_explain.proofs.exactness.is_exact.Goals as goal

pub returns-in_default : goal.returns-in_default
returns-in_default c =
    let u = c.args.table.now in
    let literals = c.in_ok-literals.literals.items in
    let premises = lists c.in_ok-premises.premises.items in
    let start = map lit_complement literals in
    let told = rw c.deref.ensures.value at c.in_ok-needed.ensures in
    inl (not_refuted u c.args.log.now c.args.steps.now c.args.clause.now literals c.in_ok-literals.ensures premises c.in_ok-premises.ensures
    (subst (λ (found : Option (List Lit)). MatchOption found (IsRefuted u premises start → ⊥) (λ (ls : List Lit). IsExactResolvent lit_complement (Contains premises) (standing start ls))) c.in_default.is told))

pub returns : goal.returns
returns c =
    let u = c.args.table.now in
    let log = c.args.log.now in
    let steps = c.args.steps.now in
    let clause = c.args.clause.now in
    let literals = c.in_ok-literals.literals.items in
    let premises = lists c.in_ok-premises.premises.items in
    let start = map lit_complement literals in
    let needed = c.in-Some.needed in
    let told = rw c.deref.ensures.value at c.in_ok-needed.ensures in
    let comes = subst (λ (found : Option (List Lit)). MatchOption found (IsRefuted u premises start → ⊥) (λ (ls : List Lit). IsExactResolvent lit_complement (Contains premises) (standing start ls))) c.in-Some.is told in
    let all = rw c.deref-2.ensures.value at c.has_all.ensures in
    told_more c.has_all.result (All (λ (l : Lit). Contains needed l) literals) ((l : Lit) × Contains literals l × (Contains needed l → ⊥)) (ComesFrom u log steps clause) (IsNotFound u log steps clause)
    (comes_whole u log steps clause literals c.in_ok-literals.ensures premises c.in_ok-premises.ensures c.ids_are_unique.ensures needed comes)
    (λ free. inr (gives_fewer u log steps clause literals c.in_ok-literals.ensures premises c.in_ok-premises.ensures c.ids_are_unique.ensures needed comes free)) all
