-- The form by the head is the term's, and a fault of the arguments or of the head is its fault.
use Rattle.std.proofs.Common.{refl, subst, ◌∙◌}
use Rattle.linear_form.specs.Walks.{AreKnownForms}
use Rattle.linear_form.proofs.NeededTerms.{needed_numbers}
use Rattle.linear_form.proofs.KnownSteps.{needed_of, known_as_form, known_as_own, known_as_argument, gathered_known, all_named}
use Rattle.linear_form.proofs.known.known_of.Goals as goal

pub returns-in-Ok : goal.returns-in-Ok
returns-in-Ok c =
    let t = c.args.table.now in
    let n = c.node-node.result.now in
    let xs = c.args.arguments.items in
    let known = subst (λ ks. AreKnownForms t ks xs) (needed_numbers t c.args.id.0 n c.node-node.ensures.means c.ids_are_unique.ensures c.node-node.ensures.placed.arguments) c.requires.known in
    let comes = (rw c.in-All.is at c.in_ok-forms.ensures.comes) t in
    let there = (rw c.in-All.is at c.in_ok-forms.ensures.there) t (all_named t _ xs known) in
    known_as_form t c.args.id n (needed_of n) c.in-All.forms.items c.in-Ok.form c.node-node.ensures.means refl (comes ∙ gathered_known t (needed_of n) xs known) (c.in-Ok.ensures.comes t c.ids_are_unique.ensures there) (c.in-Ok.ensures.there t c.requires.there there)

pub returns-in-Err-Wide : goal.returns-in-Err-Wide
returns-in-Err-Wide c =
    let t = c.args.table.now in
    let n = c.node-node.result.now in
    let xs = c.args.arguments.items in
    let known = subst (λ ks. AreKnownForms t ks xs) (needed_numbers t c.args.id.0 n c.node-node.ensures.means c.ids_are_unique.ensures c.node-node.ensures.placed.arguments) c.requires.known in
    let comes = (rw c.in-All.is at c.in_ok-forms.ensures.comes) t in
    let there = (rw c.in-All.is at c.in_ok-forms.ensures.there) t (all_named t _ xs known) in
    known_as_own t c.args.id n (needed_of n) c.in-All.forms.items c.in-Err-Wide.wide c.node-node.ensures.means refl (comes ∙ gathered_known t (needed_of n) xs known) (rw c.in-Err-Wide.field-0-is at (c.in-Err-Wide.ensures.comes t c.ids_are_unique.ensures there))

pub returns-in-Wide : goal.returns-in-Wide
returns-in-Wide c =
    let t = c.args.table.now in
    let n = c.node-node.result.now in
    let xs = c.args.arguments.items in
    let known = subst (λ ks. AreKnownForms t ks xs) (needed_numbers t c.args.id.0 n c.node-node.ensures.means c.ids_are_unique.ensures c.node-node.ensures.placed.arguments) c.requires.known in
    let comes = (rw c.in-Wide.is at c.in_ok-forms.ensures.comes) t in
    known_as_argument t c.args.id n (needed_of n) c.in-Wide.term c.in-Wide.wide c.node-node.ensures.means refl (comes ∙ gathered_known t (needed_of n) xs known)
