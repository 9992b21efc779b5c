-- Whether a term may get a name.
use Rattle.std.proofs.Common.{not, ◌&&◌, sym, ◌∙◌}
use Rattle.smt_sexpr.specs.Items.{tree_meant}
use Rattle.sort_check.proofs.Bound.{unbound_free}
use Rattle.sort_check.proofs.naming.may_name.Goals as goal

pub returns-then-len-eq0 : goal.returns-then-len-eq0
returns-then-len-eq0 c =
    λ t at u i. sym c.if-not-setting.false i && not (sym (unbound_free t c.args.bound.now (tree_meant c.args.text) (sym c.len.ensures ∙ c.if-len-eq0.true)) i)

pub returns-in-Ok : goal.returns-in-Ok
returns-in-Ok c = λ t at u i. sym c.if-not-setting.false i && not (c.in-Ok.ensures t i)
