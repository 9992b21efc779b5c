-- The second argument's sort.
use Rattle.std.proofs.Common.{◌≤◌, not, length, get_or, sym, ap, ◌∙◌, subst, arith}
use Rattle.spec_sorts.specs.Terms.{Truth, same_sort, sort_of}
use Rattle.term_core.specs.declared.ids.TermId.{TermId}
use Rattle.term_core.specs.Tables.{term_at, AreIn}
use Rattle.congruence.proofs.Taking.{second_of, no_second}
use Rattle.congruence.proofs.parts.has_elements.Goals as goal

abbrev no_number : TermId
no_number = record { 0 = 0 }

pub returns-then-arguments-lt2 : goal.returns-then-arguments-lt2
returns-then-arguments-lt2 c = sym (no_second c.args.table.now c.args.node.now.arguments.items (omega (arith, ap length c.as_slice-arguments.ensures)))

pub is_truth-requires : goal.is_truth-requires
is_truth-requires c = subst (AreIn c.args.table.now) (sym c.as_slice-arguments.ensures) c.requires 1 no_number (omega arith)

pub returns : goal.returns
returns c =
    let long : 2 ≤ length c.args.node.now.arguments.items = omega (arith, ap length c.as_slice-arguments.ensures) in
    ap not (c.is_truth.ensures
    ∙ ap (λ s. same_sort s Truth) (ap (λ xs. sort_of (term_at c.args.table.now (get_or xs 1 no_number))) c.as_slice-arguments.ensures ∙ sym (second_of c.args.table.now c.args.node.now.arguments.items no_number long)))
