-- That the term's literal has a variable, and that its value is the term's truth.
use Rattle.std.proofs.Common.{◌∙◌, ap, arith}
use Rattle.spec_rules.specs.Truths.{literal_true}
use Rattle.search_model.specs.Models.{truths_of}
use Rattle.search_model.proofs.LiteralTruths.{literal_before, told}
use Rattle.search_model.proofs.values.truth_of.Goals as goal

pub value-requires : goal.value-requires
value-requires c =
    let before = literal_before c.args.table.now c.args.id c.literal-literal.result c.ids_are_unique.ensures c.arguments_come_first.ensures c.requires.there c.literal-literal.ensures.there c.literal-literal.ensures.means in
    record { known = omega (arith, before, c.requires.known) }

pub returns : goal.returns
returns c =
    let t = c.args.table.now in
    let held = c.args.trail.now.literals in
    let l = c.literal-literal.result in
    c.unwrap_or.ensures ∙ told t held c.ids_are_unique.ensures c.requires.literals c.is_sound.ensures.consistent l c.literal-literal.ensures.there c.value.result c.value.ensures
    ∙ ap (literal_true (truths_of t held)) c.literal-literal.ensures.means
