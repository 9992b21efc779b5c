-- A name where one is wanted.
use Rattle.std.proofs.Common.{sym, subst}
use Rattle.std.specs.Prelude.{Ok, option_map}
use Rattle.spec_reading.specs.Reading.{made_by}
use Rattle.smt_sexpr.specs.Views.{word_view}
use Rattle.term_reader.specs.Names.{setting_meant}
use Rattle.sort_check.specs.Naming.{annotated_meant, listed_word, EndsNaming}
use Rattle.sort_check.proofs.Widening.{widens_same}
use Rattle.sort_check.proofs.NamesGiven.{none_given}
use Rattle.sort_check.proofs.naming.give_wanted.Goals as goal

pub returns-in-Some-clause-ends : goal.returns-in-Some-clause-ends
returns-in-Some-clause-ends c =
    let w = setting_meant c.args.setting in
    λ s text h. subst (λ o. EndsNaming c.args.table.now s c.give_name.new.scope (c.args.named.now.items, c.give_name.new.named.items) (made_by w s (annotated_meant c.args.table.now text c.args.term) (listed_word (option_map word_view o))) c.give_name.result) (sym c.in-Some.is)
    (c.give_name.ensures.ends s text h)

pub returns-in-None-clause-ends : goal.returns-in-None-clause-ends
returns-in-None-clause-ends c =
    let w = setting_meant c.args.setting in
    λ s text h. subst (λ o. EndsNaming c.args.table.now s c.args.scope.now (c.args.named.now.items, c.args.named.now.items) (made_by w s (annotated_meant c.args.table.now text c.args.term) (listed_word (option_map word_view o))) (Ok tt)) (sym c.in-None.is)
    (none_given w s (annotated_meant c.args.table.now text c.args.term) c.args.table.now c.args.scope.now c.args.named.now.items h)

pub returns-in-None-clause-widens : goal.returns-in-None-clause-widens
returns-in-None-clause-widens c = widens_same c.args.scope.now
