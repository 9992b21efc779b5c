-- The arguments are those of the term's node.
use Rattle.std.proofs.Common.{◌<◌, List, subst, arith}
use Rattle.std.proofs.lemmas.List.Elements.{All-weaker}
use Rattle.term_core.specs.declared.ids.TermId.{TermId}
use Rattle.term_core.specs.Tables.{shape_of, IsIn, AreIn}
use Rattle.alethe_writer.specs.Uses.{CountsUses}
use Rattle.alethe_writer.proofs.Counts.{arguments_counted}
use Rattle.alethe_writer.proofs.uses.count_arguments.Goals as goal

pub returns : goal.returns
returns c =
    let t = c.args.table.now in
    let s = shape_of c.node.result.now in
    let counts : CountsUses c.args.uses.now s.arguments c.count_terms.new.uses = subst (λ (ids : List TermId). CountsUses c.args.uses.now ids c.count_terms.new.uses) c.as_slice.ensures c.count_terms.ensures in
    let there : AreIn t s.arguments = All-weaker (λ (id : TermId). id.0 < c.args.id.0) (λ id. IsIn t id) (λ id lt. omega (arith, lt, c.requires.there)) s.arguments c.node.ensures.before in
    let all = arguments_counted t c.args.id s c.args.uses.now c.count_terms.new.uses c.ids_are_unique.ensures c.node.ensures.means there counts in
    rw c.if-not-wanted.false all
