-- A negation has the literal of what it negates, with the other sign, and any other term is its own.
use Rattle.std.proofs.Common.{true, [], ◌∷◌, ◌++◌, length, get_or, sym, ap, ◌∙◌, subst}
use Rattle.spec_sorts.specs.Literals.{literal_of}
use Rattle.term_core.specs.declared.ids.TermId.{TermId}
use Rattle.term_core.specs.Tables.{term_at, shape_of, node_term}
use Rattle.term_core.specs.Facts.{IsLiteralAt}
use Rattle.term_core.proofs.TermsLiteral.{next_own, next_negated}
use Rattle.term_core.proofs.FactsOfNodes.{not_is}
use Rattle.term_core.proofs.facts.literal_of.Goals as goal

abbrev no_number : TermId
no_number = record { 0 = 0 }

pub returns-in-Not : goal.returns-in-Not
returns-in-Not c = next_negated c.args.table.now (shape_of c.args.node.now) (get_or c.args.node.now.arguments.items 0 no_number) c.literal-inner.result
    (not_is c.args.table.now (shape_of c.args.node.now) no_number c.requires c.in-Not.is) c.literal-inner.ensures.there
    (c.literal-inner.ensures.means ∙ ap (λ ids. literal_of (term_at c.args.table.now (get_or ids 0 no_number))) c.as_slice.ensures)

pub returns-in_default : goal.returns-in_default
returns-in_default c =
    let t = c.args.table.now in
    subst (λ n. IsLiteralAt (t.terms ++ node_term t c.args.node.now ∷ []) (length t.terms) (record { term = record { 0 = n }; positive = true })) (sym c.len.ensures)
    (next_own t (shape_of c.args.node.now) c.in_default.not-Not)
