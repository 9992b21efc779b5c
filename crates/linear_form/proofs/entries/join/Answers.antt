-- A variable that has no live entry comes last.
use Rattle.std.proofs.Common.{◌≡◌, false, sym, subst}
use Rattle.std.proofs.lemmas.Result.{on_ok_weaker}
use Rattle.spec_arithmetic.specs.Signs.{is_zero}
use Rattle.ratio128.specs.Meant.{fraction}
use Rattle.linear_form.specs.Entries.{live, LacksNumber, IsLiveAt}
use Rattle.linear_form.specs.Making.{way_meant}
use Rattle.linear_form.proofs.Joining.{alone_not_zero, lacking_comes, has_push}
use Rattle.linear_form.proofs.entries.join.Goals as goal

pub join_at-requires-clause-live : goal.join_at-requires-clause-live
join_at-requires-clause-live c = (c.args.id.0, subst (λ l. IsLiveAt c.args.id.0 l c.in-Some.at) c.as_slice.ensures.value c.in-Some.ensures)

pub returns-in-Some-clause-comes : goal.returns-in-Some-clause-comes
returns-in-Some-clause-comes c t = c.join_at.ensures.comes t c.args.id (subst (λ l. IsLiveAt c.args.id.0 l c.in-Some.at) c.as_slice.ensures.value c.in-Some.ensures)

pub push_entry-requires-clause-not_zero : goal.push_entry-requires-clause-not_zero
push_entry-requires-clause-not_zero c = subst (λ x. is_zero x ≡ false) (sym c.alone.ensures) (alone_not_zero c.args.way (fraction c.args.k) c.requires.not_zero)

pub push_entry-requires-clause-new : goal.push_entry-requires-clause-new
push_entry-requires-clause-new c = subst (λ l. LacksNumber c.args.id.0 (live l)) c.as_slice.ensures.value c.in-None.ensures

pub returns-in-None-clause-comes : goal.returns-in-None-clause-comes
returns-in-None-clause-comes c t d there has =
    lacking_comes t (way_meant c.args.way) c.args.id (fraction c.args.k) c.alone.result c.args.entries.now.items c.push_entry.new.entries.items c.push_entry.result c.push_entry.ensures.pushed c.push_entry.ensures.stop
    (subst (λ l. LacksNumber c.args.id.0 (live l)) c.as_slice.ensures.value c.in-None.ensures)
    (subst (λ x. is_zero x ≡ false) (sym c.alone.ensures) (alone_not_zero c.args.way (fraction c.args.k) c.requires.not_zero)) c.alone.ensures d there has

pub returns-in-None-clause-there : goal.returns-in-None-clause-there
returns-in-None-clause-there c = on_ok_weaker c.push_entry.result (λ e t there has. has_push t c.args.id c.alone.result c.args.entries.now.items c.push_entry.new.entries.items e there has) c.push_entry.ensures.pushed
