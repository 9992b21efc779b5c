-- From the beginning to an answer, with the theory of equality and functions.
use Rattle.std.proofs.Common.{◌≡◌, ◌≢◌, List, length, map, Contains, sym, ap, ap₂, ◌∙◌, refl, arith, subst}
use Rattle.std.proofs.lemmas.List.Elements.{All-weaker}
use Rattle.std.specs.Prelude.{replicate}
use Rattle.spec_numbers.specs.Fractions.{zero_fraction}
use Rattle.spec_tableaux.specs.Numbers.{numbers}
use Rattle.spec_sorts.specs.Terms.{Number, Term, sort_of}
use Rattle.spec_derivations.specs.Orders.{whole_terms}
use Rattle.spec_derivations.specs.Examples.{speaking}
use Rattle.ratio128.specs.Meant.{fraction}
use Rattle.term_core.specs.declared.ids.TermId.{TermId}
use Rattle.term_core.specs.Tables.{IsIn, AreIn, clause_at}
use Rattle.proof_log.specs.Theories.{IsTermIn}
use Rattle.congruence_closure.specs.Closure.{TellClasses}
use Rattle.term_core.proofs.TermsExtend.{Extends-self}
use Rattle.congruence.specs.Views.{theory_of, AreEqualBy}
use Rattle.search_loop.specs.declared.cdcl.Answer.{Answer}
use Rattle.search_loop.specs.declared.cdcl.Answer.TheVariants.{Sat, Unsat, Unknown}
use Rattle.search_loop.proofs.SearchRounds.{shows_on}
use Rattle.term_core.specs.Symbols.{SymbolsView, AreDeclared}
use Rattle.solve_core.proofs.SearchNumbers.{plain_later, zeros_hold}
use Rattle.solve_core.proofs.SearchRuns.{made, exchanged_none}
use Rattle.solve_core.proofs.SearchStops.{answered_by, saturated_with}
use Rattle.solve_core.proofs.answering.search_classes.Goals as goal

pub returns-in_default-clause-grown : goal.returns-in_default-clause-grown
returns-in_default-clause-grown g c = Extends-self c.args.table.now

zero_is : numbers.zero.fraction ≡ zero_fraction
unfolding numbers
zero_is = refl

-- 0 for each term, as none is a number
pub model-requires : goal.model-requires
model-requires g c =
    let w = c.run.new.table in
    let y = c.run.new.self in
    let t = c.args.table.now in
    let x = c.args.search.now in
    let v = theory_of c.run.new.theory in
    let ends = rw c.in-Saturated.is at (rw c.in-Ok-run.is at c.run.ensures.ends) in
    let plain : (u : Term) → Contains (clause_at w y.terms.items) u → sort_of u ≢ Number =
    plain_later t w c.run.ensures.grown x y c.requires.0.begun.ready ends.1.terms c.requires.1.0 in
    let all : c.len.result ≡ length y.terms.items = omega (arith, c.len.ensures, y.terms.ok.0) in
    let ids = y.terms.items in
    let ns = c.in_ok-classes-in-Saturated.classes.items in
    let declared = subst (λ (d : SymbolsView). AreDeclared d.sorts d.symbols) c.symbols.ensures c.are_declared.ensures in
    let there : AreIn w c.deref-in-Saturated.result.now = subst (AreIn w) (sym c.deref-in-Saturated.ensures.value) (All-weaker (IsTermIn w) (IsIn w) (λ id k. k.0) ids ends.0.ready.atoms_are.there) in
    let told = c.in_ok-classes-in-Saturated.ensures.exact w c.ids_are_unique.ensures declared (rw c.in-Ok-run.is at c.run.ensures.with) there ends.0.agrees.1 in
    let tell = subst (λ (is : List TermId). TellClasses (AreEqualBy w v) is ns) c.deref-in-Saturated.ensures.value told in
    let count = c.in_ok-classes-in-Saturated.ensures.count ∙ ap length c.deref-in-Saturated.ensures.value in
    let zeros = c.in_ok-numbers-in-Saturated.ensures ∙ ap₂ replicate all zero_is in
    record { search_saturated = (v, saturated_with w y v (λ a. a.0) ends.0, zeros_hold w y v _ ends.0 plain ns tell count (map fraction c.in_ok-numbers-in-Saturated.numbers.items) zeros) }

pub returns-in_ok-model-in-Saturated-clause-answered : goal.returns-in_ok-model-in-Saturated-clause-answered
returns-in_ok-model-in-Saturated-clause-answered g c =
    let t = c.args.table.now in
    let w = c.run.new.table in
    let x = c.args.search.now in
    let y = c.run.new.self in
    let b = c.requires.0 in
    let p = speaking g.asked b.interface in
    let a : Answer = Sat c.in_ok-model-in-Saturated.model in
    let ends = rw c.in-Saturated.is at (rw c.in-Ok-run.is at c.run.ensures.ends) in
    let came = rw c.in-Ok-run.is at (c.run.ensures.came (whole_terms p) 0 (0, omega arith, b.begun.unspent)) in
    answered_by g.asked x.budget.limit t w x y b.interface b.begun.search b.apart
    (rw c.in-Ok-run.is at c.run.ensures.right) (rw c.in-Ok-run.is at c.run.ensures.limit) a
    (shows_on t w w x y y a ends.1 c.in_ok-model-in-Saturated.ensures) (made p y.budget a (exchanged_none (whole_terms p) _ y.budget.exchanges came.2))

pub returns-in-Refuted-clause-answered : goal.returns-in-Refuted-clause-answered
returns-in-Refuted-clause-answered g c =
    let t = c.args.table.now in
    let w = c.run.new.table in
    let x = c.args.search.now in
    let y = c.run.new.self in
    let b = c.requires.0 in
    let p = speaking g.asked b.interface in
    let a : Answer = Unsat c.in-Refuted.step in
    let came = rw c.in-Ok-run.is at (c.run.ensures.came (whole_terms p) 0 (0, omega arith, b.begun.unspent)) in
    answered_by g.asked x.budget.limit t w x y b.interface b.begun.search b.apart
    (rw c.in-Ok-run.is at c.run.ensures.right) (rw c.in-Ok-run.is at c.run.ensures.limit) a
    (rw c.in-Refuted.is at (rw c.in-Ok-run.is at c.run.ensures.ends)) (made p y.budget a (exchanged_none (whole_terms p) _ y.budget.exchanges came.2))

pub returns-in-Stopped-clause-answered : goal.returns-in-Stopped-clause-answered
returns-in-Stopped-clause-answered g c =
    let t = c.args.table.now in
    let w = c.run.new.table in
    let x = c.args.search.now in
    let y = c.run.new.self in
    let b = c.requires.0 in
    let p = speaking g.asked b.interface in
    let a : Answer = Unknown c.in-Stopped.reason in
    let came = rw c.in-Ok-run.is at (c.run.ensures.came (whole_terms p) 0 (0, omega arith, b.begun.unspent)) in
    answered_by g.asked x.budget.limit t w x y b.interface b.begun.search b.apart
    (rw c.in-Ok-run.is at c.run.ensures.right) (rw c.in-Ok-run.is at c.run.ensures.limit) a
    (rw c.in-Stopped.is at (rw c.in-Ok-run.is at c.run.ensures.ends)) (made p y.budget a (exchanged_none (whole_terms p) _ y.budget.exchanges came.2))
