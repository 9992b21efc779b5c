use Rattle.std.proofs.Common.{rules, ◌≡◌, ◌++◌, [], ◌∷◌, ap, ◌∙◌, sym, arith, subst}
use Rattle.std.proofs.lemmas.List.{map-append, nil_from_length}
use Rattle.spec_tableaux.specs.Rows as definitions
use Rattle.spec_tableaux.specs.Numbers.{numbers}
use Rattle.tableau.specs.Numbers.{number_of}
use Rattle.tableau.specs.Entries.{entry_of, entries_of}
use Rattle.ratio128.specs.Meant.{overflow}
use Rattle.tableau.specs.Sums.{turned, AreAbove, OverflowsCombined}
use Rattle.tableau.proofs.Telling.{told_wide, combined_product, combined_sum}
use Rattle.tableau.proofs.Merging.{step_first, step_second, step_both, above_all}
use Rattle.tableau.proofs.Turns.{left_later}
use Rattle.tableau.proofs.sums.merge_one.Goals as goal

pub returns-in_err-product-clause-wide : goal.returns-in_err-product-clause-wide
returns-in_err-product-clause-wide c = told_wide (OverflowsCombined c.args.minus (entries_of c.args.es.now) (number_of c.args.k) (entry_of c.args.g ∷ [])) c.from_residual.result c.in_err-product.field-0.0 c.from_residual.ensures.1
    (combined_product c.args.minus (entries_of c.args.es.now) (number_of c.args.k) (entry_of c.args.g) (overflow c.in_err-product.field-0.0) c.in_err-product.ensures.wide)

pub returns-in_default-clause-merges : goal.returns-in_default-clause-merges
returns-in_default-clause-merges c =
    let none : entries_of c.args.es.now ≡ [] = ap entries_of (nil_from_length c.args.es.now c.in_default.ensures.cases) in
    step_second numbers (turned c.args.minus) (number_of c.args.k) (entry_of c.args.g) (entries_of c.args.es.now) (entries_of c.args.out.now.items) (entries_of c.append.new.out.items)
    (subst (AreAbove c.args.g.variable) (sym none) tt)
    (c.in_ok-append.ensures ∙ ap (λ z. entries_of c.args.out.now.items ++ definitions.with_entry numbers c.args.g.variable z []) (c.turned_by.ensures ∙ ap (turned c.args.minus) c.in_ok-product.ensures.ok))

pub returns-then-e-g-clause-merges : goal.returns-then-e-g-clause-merges
returns-then-e-g-clause-merges c =
    let some : c.args.es.now ≡ c.in-Some.e.now ∷ c.in-Some.rest.now = search rules in
    step_first numbers (turned c.args.minus) (number_of c.args.k) (entry_of c.in-Some.e.now) (entry_of c.args.g) (entries_of c.args.es.now) (entries_of c.in-Some.rest.now) (entries_of c.args.out.now.items) (entries_of c.push.new.self.items)
    (ap entries_of some) (omega arith) (ap entries_of c.in_ok-push.ensures.items ∙ map-append _ _ _)

pub returns-then-e-g-clause-left : goal.returns-then-e-g-clause-left
returns-then-e-g-clause-left c =
    let some : c.args.es.now ≡ c.in-Some.e.now ∷ c.in-Some.rest.now = search rules in
    left_later (entry_of c.in-Some.e.now) (entries_of c.args.es.now) (entries_of c.in-Some.rest.now) (entries_of c.args.es.now) (ap entries_of some) (λ e h. h)

pub returns-in_err-taken-clause-wide : goal.returns-in_err-taken-clause-wide
returns-in_err-taken-clause-wide c = told_wide (OverflowsCombined c.args.minus (entries_of c.args.es.now) (number_of c.args.k) (entry_of c.args.g ∷ [])) c.from_residual-in_err-taken.result c.in_err-taken.field-0.0 c.from_residual-in_err-taken.ensures.1
    (combined_product c.args.minus (entries_of c.args.es.now) (number_of c.args.k) (entry_of c.args.g) (overflow c.in_err-taken.field-0.0) c.in_err-taken.ensures.wide)

pub returns-in_err-total-clause-wide : goal.returns-in_err-total-clause-wide
returns-in_err-total-clause-wide c =
    let some : c.args.es.now ≡ c.in-Some.e.now ∷ c.in-Some.rest.now = search rules in
    told_wide (OverflowsCombined c.args.minus (entries_of c.args.es.now) (number_of c.args.k) (entry_of c.args.g ∷ [])) c.from_residual-in_err-total.result c.in_err-total.field-0.0 c.from_residual-in_err-total.ensures.1
    (combined_sum c.args.minus (entries_of c.args.es.now) (entries_of c.in-Some.rest.now) (number_of c.args.k) (entry_of c.in-Some.e.now) (entry_of c.args.g) (number_of c.in_ok-taken.taken) (overflow c.in_err-total.field-0.0)
    (ap entries_of some) (omega arith) c.in_ok-taken.ensures.ok c.in_err-total.ensures.wide)

pub returns-then-e-g-2-clause-merges : goal.returns-then-e-g-2-clause-merges
returns-then-e-g-2-clause-merges c =
    let some : c.args.es.now ≡ c.in-Some.e.now ∷ c.in-Some.rest.now = search rules in
    step_both numbers (turned c.args.minus) (number_of c.args.k) (entry_of c.in-Some.e.now) (entry_of c.args.g) (entries_of c.args.es.now) (entries_of c.in-Some.rest.now) (entries_of c.args.out.now.items) (entries_of c.append-then-e-g-2.new.out.items)
    (ap entries_of some) (omega arith)
    (c.in_ok-append-2.ensures ∙ ap (λ z. entries_of c.args.out.now.items ++ definitions.with_entry numbers c.args.g.variable z []) (c.in_ok-total.ensures.ok ∙ ap (λ z. numbers.plus (number_of c.in-Some.e.now.coefficient) (turned c.args.minus z)) c.in_ok-taken.ensures.ok))

pub returns-then-e-g-2-clause-left : goal.returns-then-e-g-2-clause-left
returns-then-e-g-2-clause-left c =
    let some : c.args.es.now ≡ c.in-Some.e.now ∷ c.in-Some.rest.now = search rules in
    left_later (entry_of c.in-Some.e.now) (entries_of c.args.es.now) (entries_of c.in-Some.rest.now) (entries_of c.args.es.now) (ap entries_of some) (λ e h. h)

pub returns-clause-merges : goal.returns-clause-merges
returns-clause-merges c =
    let some : c.args.es.now ≡ c.in-Some.e.now ∷ c.in-Some.rest.now = search rules in
    step_second numbers (turned c.args.minus) (number_of c.args.k) (entry_of c.args.g) (entries_of c.args.es.now) (entries_of c.args.out.now.items) (entries_of c.append-2.new.out.items)
    (above_all numbers c.requires.tidy.0 c.args.g.variable (entry_of c.in-Some.e.now) (entries_of c.args.es.now) (entries_of c.in-Some.rest.now) (ap entries_of some) c.requires.tidy.1 (omega arith))
    (c.in_ok-append-3.ensures ∙ ap (λ z. entries_of c.args.out.now.items ++ definitions.with_entry numbers c.args.g.variable z []) (c.turned_by-2.ensures ∙ ap (turned c.args.minus) c.in_ok-taken.ensures.ok))
