-- There is one entry, whose coefficient is 1.
use Rattle.std.proofs.Common.{◌≡◌, ◌∷◌, ◌++◌, [], false, nat_eq, refl, sym, ap, ◌∙◌, subst}
use Rattle.std.specs.HashMap.{get}
use Rattle.spec_numbers.specs.Fractions.{one_fraction}
use Rattle.spec_arithmetic.specs.Signs.{is_zero}
use Rattle.linear_form.specs.Entries.{live, variables_meant}
use Rattle.linear_form.proofs.Indexes.{live_one, kept_empty}
use Rattle.linear_form.proofs.form.variable_alone.Goals as goal

pub push_entry-requires-clause-index : goal.push_entry-requires-clause-index
push_entry-requires-clause-index c = kept_empty (get nat_eq c.new-places.result) c.new-entries.result.items c.new-entries.ensures.items

pub push_entry-requires-clause-not_zero : goal.push_entry-requires-clause-not_zero
unfolding is_zero
push_entry-requires-clause-not_zero c = subst (λ x. is_zero x ≡ false) (sym c.one.ensures) refl

pub returns-clause-comes : goal.returns-clause-comes
unfolding is_zero
returns-clause-comes c t =
    let one = c.one.result in
    let id = c.args.id in
    let e : live c.push_entry.new.entries.items ≡ (id, one_fraction) ∷ [] =
    ap live (c.in_ok-push_entry.ensures.pushed ∙ ap (λ l. l ++ (id, one) ∷ []) c.new-entries.ensures.items)
    ∙ live_one id one (subst (λ x. is_zero x ≡ false) (sym c.one.ensures) refl) ∙ ap (λ k. (id, k) ∷ []) c.one.ensures in
    λ i. record { constant = c.zero.ensures i; variables = variables_meant t (e i) }
