use Rattle.std.proofs.Common.{◌<◌, length, sym, ap, ◌∙◌, subst}
use Rattle.spec_sorts.specs.Theory.{conjunction}
use Rattle.term_reader.specs.declared.building.Link.TheVariants.{Unequal}
use Rattle.term_reader.specs.Building.{Builds}
use Rattle.term_reader.specs.Chains.{AreLinked, linked_terms}
use Rattle.term_reader.proofs.Tables.{keeps_same}
use Rattle.term_reader.proofs.Taken.{linked_pairs, pair_terms, some_pairs}
use Rattle.term_reader.proofs.heads.put_distinct.Goals as goal

pub returns-then-ids-gt-MOST_DISTINCT : goal.returns-then-ids-gt-MOST_DISTINCT
returns-then-ids-gt-MOST_DISTINCT c = record { keeps = keeps_same c.args.table.now; ends = tt }

pub put_chain-requires-clause-some : goal.put_chain-requires-clause-some
put_chain-requires-clause-some c = subst (λ ps. 0 < length ps) (sym (c.deref.ensures.value ∙ c.in-Ok.ensures)) (some_pairs c.args.ids.now c.requires.two)

pub put_chain-requires-clause-linked : goal.put_chain-requires-clause-linked
put_chain-requires-clause-linked c =
    let a = c.requires.alike in
    subst (AreLinked c.args.table.now Unequal) (sym (c.deref.ensures.value ∙ c.in-Ok.ensures)) (linked_pairs c.args.table.now Unequal a.sort a.suits c.args.ids.now a.each)

pub returns-in-Ok : goal.returns-in-Ok
returns-in-Ok c =
    let t = c.args.table.now in
    subst (λ ts. Builds t c.put_chain.new.table (conjunction ts) c.put_chain.result)
    (ap (linked_terms Unequal t) (c.deref.ensures.value ∙ c.in-Ok.ensures) ∙ pair_terms t Unequal c.args.ids.now) c.put_chain.ensures

pub returns-in-Err : goal.returns-in-Err
returns-in-Err c = record { keeps = keeps_same c.args.table.now; ends = tt }
