-- What a check shows.
use Rattle.std.proofs.Common.{◌≡◌, refl, sym, ◌∙◌, ap, subst}
use Rattle.term_core.specs.Symbols.{SymbolsView, AreDeclared}
use Rattle.congruence_relation.specs.Relation.{Facts, AreFactsOf, terms_listed}
use Rattle.congruence_closure.specs.Closure.{ClosureView}
use Rattle.congruence_explain.proofs.Concluding.{derives_none}
use Rattle.proof_log.specs.Clashes.{IsClash}
use Rattle.proof_log.specs.Theories.{IsTheoryOver, terms_watched, Derived, DerivesLemmas}
use Rattle.congruence.specs.Views.{theory_of}
use Rattle.congruence.proofs.Terms.{watched_are_listed}
use Rattle.congruence.proofs.Views.{same_view}
use Rattle.congruence.proofs.Checking.{saturated_is_fine, conflict_is_refuted}
use Rattle.congruence.proofs.theory.CongruenceTheory.check.Goals as goal

pub returns-in_default-clause-checks : goal.returns-in_default-clause-checks
returns-in_default-clause-checks c =
    let t = c.args.table.now in
    let v = c.args.self.now in
    let facts = c.saturate.ensures.facts ∙ ap (λ (x : ClosureView). x.now.facts) c.self.view_is in (
      (
        saturated_is_fine t v c.saturate.new.self facts c.is_right.ensures (c.refutations_agree.ensures t v.now.facts c.ids_are_unique.ensures (subst (λ (d : SymbolsView). AreDeclared d.sorts d.symbols) c.symbols.ensures c.are_declared.ensures) c.requires.with) (c.in_ok-found.ensures.saturated c.in_default.is),
        c.in_ok-found.ensures.saturated c.in_default.is,
      ),
      derives_none (terms_watched t (theory_of v)) t c.args.log.now c.requires.log,
    )

pub explain_conflict-requires : goal.explain_conflict-requires
explain_conflict-requires c =
    let t = c.args.table.now in
    let v = c.args.self.now in
    let w = c.saturate.new.self in
    let facts : w.now.facts ≡ v.now.facts = c.saturate.ensures.facts ∙ ap (λ (x : ClosureView). x.now.facts) c.self.view_is in
    let view = same_view v w facts (c.saturate.ensures.marks ∙ ap (λ (x : ClosureView). x.marks) c.self.view_is) in (
      refl,
      (
        subst (IsTheoryOver t) (sym view) c.requires.over,
        (subst (AreFactsOf t) (sym facts) c.requires.with, (c.requires.log, c.in_ok-found.ensures.conflict c.in-Some.conflict c.in-Some.is)),
      ),
    )

pub returns-clause-with : goal.returns-clause-with
returns-clause-with c =
    let facts = c.saturate.ensures.facts ∙ ap (λ (x : ClosureView). x.now.facts) c.self.view_is in
    subst (AreFactsOf c.explain_conflict.new.table) (sym facts) (c.facts_stay_over_more_terms.ensures.of c.args.table.now c.explain_conflict.new.table c.args.self.now.now.facts c.in_ok-step.ensures.derives.table c.requires.with)

pub returns-clause-checks : goal.returns-clause-checks
returns-clause-checks c =
    let t = c.args.table.now in
    let v = c.args.self.now in
    let w = c.saturate.new.self in
    let facts : w.now.facts ≡ v.now.facts = c.saturate.ensures.facts ∙ ap (λ (x : ClosureView). x.now.facts) c.self.view_is in
    let old : Derived = record { table = t; log = c.args.log.now } in
    let new : Derived = record { table = c.explain_conflict.new.table; log = c.explain_conflict.new.log } in
    let found = c.in_ok-found.ensures.conflict c.in-Some.conflict c.in-Some.is in (
      conflict_is_refuted t v w facts c.is_right.ensures (c.refutations_agree.ensures t v.now.facts c.ids_are_unique.ensures (subst (λ (d : SymbolsView). AreDeclared d.sorts d.symbols) c.symbols.ensures c.are_declared.ensures) c.requires.with) c.in-Some.conflict found,
      subst (λ ts. DerivesLemmas ts old new) (ap (terms_listed t) facts ∙ sym (watched_are_listed t v)) c.in_ok-step.ensures.derives,
      subst (λ (f : Facts). IsClash new.table new.log f.held c.in_ok-step.step) facts c.in_ok-step.ensures.clash,
    )
