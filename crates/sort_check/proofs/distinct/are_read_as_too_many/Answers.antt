-- Texts that are read as too many terms.
use Rattle.std.proofs.Common.{◌≡◌, true, map, ap, ◌∙◌, subst}
use Rattle.spec_sorts.specs.Terms.{sort_of}
use Rattle.spec_sorts.specs.Theory.{alike, sorts_fit}
use Rattle.spec_reading.specs.Reading.{readings}
use Rattle.smt_sexpr.specs.Items.{trees_meant}
use Rattle.term_core.specs.Tables.{clause_at}
use Rattle.term_reader.specs.Names.{setting_meant}
use Rattle.sort_check.specs.Bindings.{BindingsView, bound_at}
use Rattle.sort_check.specs.Reads.{store}
use Rattle.sort_check.specs.Rows.{HasRow}
use Rattle.sort_check.specs.TooMany.{AreTooMany}
use Rattle.sort_check.proofs.distinct.are_read_as_too_many.Goals as goal

pub returns-clause-many : goal.returns-clause-many
returns-clause-many c =
    let w = setting_meant c.args.setting in
    let us = trees_meant c.args.arguments in
    let u = c.read.new.table in
    λ yes s h.
    let r = subst (λ (b : BindingsView). HasRow s (store u c.read.new.scope) (readings w s (bound_at c.args.table.now b) us) (c.in-Ok.ids.items, c.in-Ok.field-0-1.items)) c.new.ensures (c.in-Ok.ensures.ends s h) in
    let terms = ap (clause_at u) c.deref.ensures.value ∙ r.terms.1 in
    record {
      readings = r.readings;
      read = r.read;
      alike = subst (λ ts. sorts_fit alike (map sort_of ts) ≡ true) terms (c.are_too_many.ensures.alike yes);
      many = subst (AreTooMany c.args.limit) terms (c.are_too_many.ensures.many yes);
    }
