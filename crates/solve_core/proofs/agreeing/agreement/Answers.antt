-- Whether the theories agree.
use Rattle.std.proofs.Common.{true, ◌≡◌, ◌<◌, ℕ, List, ◌++◌, length, take, get_or, map, sym, ap, ◌∙◌, subst, arith, length-append}
use Rattle.std.proofs.lemmas.List.{length-map, take-map}
use Rattle.std.proofs.lemmas.List.Elements.{Contains-get_or}
use Rattle.spec_causes.specs.Shared.{IsSharedAmong}
use Rattle.ratio128.specs.Meant.{fraction}
use Rattle.term_core.specs.declared.ids.TermId.{TermId}
use Rattle.term_core.specs.Symbols.{SymbolsView, AreDeclared}
use Rattle.term_core.specs.Tables.{AreIn, term_at, clause_at}
use Rattle.proof_log.specs.Theories.{IsTheoryOver, terms_watched}
use Rattle.congruence_closure.specs.Closure.{ClosureView, TellClasses}
use Rattle.congruence_relation.specs.Relation.{AreFactsOf}
use Rattle.agreement.specs.declared.agreeing.Shared.{Shared}
use Rattle.agreement.specs.Agreeing.{Agree, ArePairs}
use Rattle.solve_core.specs.Agreeing.{AreTheoryValues}
use Rattle.congruence.specs.Views.{theory_of, AreEqualBy}
use Rattle.simplex.specs.Views.{SimplexView}
use Rattle.simplex.specs.Numbers.{HoldApart}
use Rattle.simplex.specs.Coming.{IsOverflowAt}
use Rattle.sat_budget.specs.Budgets.{StopsBy}
use Rattle.search_loop.proofs.SearchSpends.{handed_on}
use Rattle.solve_core.proofs.SearchNumbers.{over_saturated}
use Rattle.solve_core.proofs.SearchAgreed.{shared_watched, shared_linear, all_there}
use Rattle.solve_core.proofs.SearchTogether.{agreed_together, differ_open}
use Rattle.solve_core.proofs.agreeing.agreement.Goals as goal
use Rattle.solve_core.proofs.agreeing.agreement.Goals.{In_ok-xs}

pub numbers-requires-clause-over : goal.numbers-requires-clause-over
numbers-requires-clause-over c =
    let t = c.args.table.now in
    let theory = c.args.theory.now in
    subst (λ (v : SimplexView). IsTheoryOver t v.theory) (sym c.simplex.ensures)
    (subst (IsTheoryOver t) c.parts_hold_the_same.ensures (over_saturated t c.args.search.now (theory_of theory.congruence) _ c.requires.search_saturated))

pub numbers-requires-clause-terms : goal.numbers-requires-clause-terms
numbers-requires-clause-terms c =
    let t = c.args.table.now in
    let x = c.args.search.now in
    let theory = c.args.theory.now in
    let ids = c.args.shared.now in
    let all : c.deref-2.result.now ≡ x.terms.items ++ ids = c.deref-2.ensures.value ∙ c.in_ok-terms.ensures ∙ ap (λ (is : List TermId). is ++ ids) c.deref.ensures.value in
    subst (AreIn t) (sym all) (all_there t c.ids_are_unique.ensures x (theory_of theory.congruence) _ c.requires.search_saturated ids c.requires.asked.0 c.requires.asked.1)

pub numbers-requires-clause-there : goal.numbers-requires-clause-there
numbers-requires-clause-there c = c.requires.asked.1.shared.there

pub numbers-requires-clause-shared : goal.numbers-requires-clause-shared
numbers-requires-clause-shared c = λ k d lt.
    let t = c.args.table.now in
    let theory = c.args.theory.now in
    let ids = c.args.shared.now in
    let u = get_or (clause_at t ids) k d in
    subst (λ (v : SimplexView). IsSharedAmong (terms_watched t v.theory) u) (sym c.simplex.ensures)
    (shared_watched t c.ids_are_unique.ensures c.args.search.now (theory_of theory.congruence) _ c.requires.search_saturated ids c.requires.asked.0 c.requires.asked.1 theory.simplex.theory c.parts_hold_the_same.ensures u
    (Contains-get_or (clause_at t ids) k d lt))

pub numbers-requires-clause-linear : goal.numbers-requires-clause-linear
numbers-requires-clause-linear c = λ k d lt.
    let t = c.args.table.now in
    let theory = c.args.theory.now in
    let ids = c.args.shared.now in
    shared_linear t c.ids_are_unique.ensures c.args.search.now (theory_of theory.congruence) _ c.requires.search_saturated ids c.requires.asked.0 c.requires.asked.1 c.terms_of_linear_checks_are_linear.ensures
    (get_or (clause_at t ids) k d) (Contains-get_or (clause_at t ids) k d lt)

pub returns-in_err-numbers-clause-stops : goal.returns-in_err-numbers-clause-stops
returns-in_err-numbers-clause-stops c =
    let t = c.args.table.now in
    let theory = c.args.theory.now in
    handed_on (StopsBy (λ s. IsOverflowAt t (terms_watched t theory.simplex.theory) s theory.simplex)) c.from_residual-in_err-numbers.result c.in_err-numbers.field-0.0 c.from_residual-in_err-numbers.ensures.1
    (subst (λ (v : SimplexView). StopsBy (λ e. IsOverflowAt t (terms_watched t v.theory) e v) c.in_err-numbers.field-0.0) c.simplex.ensures c.in_err-numbers.ensures.stops)

pub shared_of-requires-clause-numbers : goal.shared_of-requires-clause-numbers
shared_of-requires-clause-numbers c =
    let t = c.args.table.now in
    let x = c.args.search.now in
    let ids = c.args.shared.now in
    let n = c.in_ok-numbers.ensures.ok in
    let ns = c.in_ok-numbers.numbers.items in
    let all : c.deref-2.result.now ≡ x.terms.items ++ ids = c.deref-2.ensures.value ∙ c.in_ok-terms.ensures ∙ ap (λ (is : List TermId). is ++ ids) c.deref.ensures.value in
    let many : length ns ≡ length c.deref-2.result.now = sym (length-map ns fraction) ∙ ap length n.are ∙ length-map (clause_at t c.deref-2.result.now) n.number ∙ length-map c.deref-2.result.now (term_at t) in
    omega (arith, many, ap length all, length-append x.terms.items ids, c.len-count.ensures, x.terms.ok.0)

-- there are as many terms before
front_many : (c : In_ok-xs) → c.len-count.result ≡ length c.args.search.now.terms.items
front_many c = omega (arith, c.len-count.ensures, c.args.search.now.terms.ok.0)

-- the classes of all terms
all_told : (c : In_ok-xs) → TellClasses (AreEqualBy c.args.table.now (theory_of c.args.theory.now.congruence)) (c.args.search.now.terms.items ++ c.args.shared.now) c.in_ok-classes.classes.items
all_told c =
    let t = c.args.table.now in
    let x = c.args.search.now in
    let theory = c.args.theory.now in
    let ids = c.args.shared.now in
    let ns = c.in_ok-classes.classes.items in
    let v = theory_of theory.congruence in
    let all : c.deref-3.result.now ≡ x.terms.items ++ ids = c.deref-3.ensures.value ∙ c.in_ok-terms.ensures ∙ ap (λ (is : List TermId). is ++ ids) c.deref.ensures.value in
    let declared = subst (λ (d : SymbolsView). AreDeclared d.sorts d.symbols) c.symbols.ensures c.are_declared.ensures in
    let there = subst (AreIn t) (sym all) (all_there t c.ids_are_unique.ensures x v _ c.requires.search_saturated ids c.requires.asked.0 c.requires.asked.1) in
    let told = c.in_ok-classes.ensures.exact t c.ids_are_unique.ensures declared
    (subst (λ (k : ClosureView). AreFactsOf t k.now.facts) (sym c.congruence.ensures) c.requires.congruence) there (subst (λ (k : ClosureView). k.now.saturated ≡ true) (sym c.congruence.ensures) c.requires.search_saturated.agrees.0.1) in
    subst (λ (is : List TermId). TellClasses (AreEqualBy t v) is ns) all (subst (λ (k : ClosureView). TellClasses (AreEqualBy t (theory_of k)) c.deref-3.result.now ns) c.congruence.ensures told)

all_counted : (c : In_ok-xs) → length c.in_ok-classes.classes.items ≡ length (c.args.search.now.terms.items ++ c.args.shared.now)
all_counted c = c.in_ok-classes.ensures.count ∙ ap length (c.deref-3.ensures.value ∙ c.in_ok-terms.ensures ∙ ap (λ (is : List TermId). is ++ c.args.shared.now) c.deref.ensures.value)

-- and their numbers
all_apart : (c : In_ok-xs) → HoldApart c.args.table.now c.args.theory.now.simplex (clause_at c.args.table.now (c.args.search.now.terms.items ++ c.args.shared.now)) (clause_at c.args.table.now c.args.shared.now)
    (map fraction c.in_ok-numbers.numbers.items)
all_apart c =
    let t = c.args.table.now in
    let ids = c.args.shared.now in
    let xs = map fraction c.in_ok-numbers.numbers.items in
    let all : c.deref-2.result.now ≡ c.args.search.now.terms.items ++ ids = c.deref-2.ensures.value ∙ c.in_ok-terms.ensures ∙ ap (λ (is : List TermId). is ++ ids) c.deref.ensures.value in
    subst (λ (v : SimplexView). HoldApart t v (clause_at t (c.args.search.now.terms.items ++ ids)) (clause_at t ids) xs) c.simplex.ensures
    (subst (λ (is : List TermId). HoldApart t c.simplex.result.now (clause_at t is) (clause_at t ids) xs) all c.in_ok-numbers.ensures.ok)

all_theory_values : (c : In_ok-xs) → AreTheoryValues c.args.shared.now c.in_ok-classes.classes.items (map fraction c.in_ok-numbers.numbers.items) (length c.args.search.now.terms.items) c.in_ok-xs.xs.items
all_theory_values c = subst (λ (n : ℕ). AreTheoryValues c.args.shared.now c.in_ok-classes.classes.items (map fraction c.in_ok-numbers.numbers.items) n c.in_ok-xs.xs.items) (front_many c) c.in_ok-xs.ensures

pub returns-in-Pairs-clause-found : goal.returns-in-Pairs-clause-found
returns-in-Pairs-clause-found c = λ p a.
    let d = (goal.at.returns-in-Pairs-clause-found c).In_ok-xs in
    let t = c.args.table.now in
    let theory = c.args.theory.now in
    let pairs = subst (λ (xs : List Shared). ArePairs xs c.in-Pairs.pairs.items × (0 < length c.in-Pairs.pairs.items)) c.as_mut_slice.ensures.value (rw c.in-Pairs.is at c.in_ok-pairs.ensures.answer) in
    differ_open t c.ids_are_unique.ensures c.args.search.now (theory_of theory.congruence) _ c.requires.search_saturated c.args.shared.now p a c.is_sound.ensures.consistent c.requires.search_saturated.agrees.0.0
    c.listed_terms_have_their_places_class.ensures c.terms_of_linear_checks_are_linear.ensures c.in_ok-classes.classes.items (all_told d) (all_counted d) theory.simplex c.parts_hold_the_same.ensures
    (map fraction c.in_ok-numbers.numbers.items) (all_apart d) c.in_ok-xs.xs.items (all_theory_values d) c.sides_of_equalities_agree.ensures c.in-Pairs.pairs.items pairs.0 pairs.1

pub returns-clause-found : goal.returns-clause-found
returns-clause-found c =
    let d = (goal.at.returns-clause-found c).In_ok-xs in
    let t = c.args.table.now in
    let theory = c.args.theory.now in
    let ns = c.in_ok-numbers.numbers.items in
    let agree = subst (λ (xs : List Shared). Agree xs) c.as_mut_slice.ensures.value (rw c.in-Agreed.is at c.in_ok-pairs.ensures.answer) in
    agreed_together t c.ids_are_unique.ensures c.args.search.now (theory_of theory.congruence) _ c.requires.search_saturated c.args.shared.now c.requires.asked.0 c.requires.asked.1 c.is_sound.ensures.consistent
    c.requires.search_saturated.agrees.0.0 c.listed_terms_have_their_places_class.ensures c.terms_of_linear_checks_are_linear.ensures c.in_ok-classes.classes.items (all_told d) (all_counted d) theory.simplex
    c.parts_hold_the_same.ensures (map fraction ns) (all_apart d) c.in_ok-xs.xs.items (all_theory_values d) c.interface_equalities_apply_nothing_more.ensures agree
    c.truncate.new.self.items (c.truncate.ensures.items ∙ ap (λ (n : ℕ). take n c.in_ok-classes.classes.items) (front_many d))
    (map fraction c.truncate-in-Agreed.new.self.items) (ap (map fraction) (c.truncate-in-Agreed.ensures.items ∙ ap (λ (n : ℕ). take n ns) (front_many d)) ∙ sym (take-map fraction (length c.args.search.now.terms.items) ns))
