use Rattle.std.proofs.Common.{sym, ap, ◌∙◌}
use Rattle.std.specs.Prelude.{Ok}
use Rattle.std.proofs.lemmas.List.{length-map}
use Rattle.spec_sorts.specs.Theory.{takes_count}
use Rattle.spec_reading.proofs.Values.{rule_reads}
use Rattle.term_core.specs.Tables.{term_at, clause_at}
use Rattle.term_core.specs.TheoryHeads.{rule_of}
use Rattle.term_reader.proofs.Tables.{keeps_same}
use Rattle.term_reader.proofs.Taken.{rule_count, rule_sorts, rule_fault}
use Rattle.term_reader.proofs.heads.by_rule.Goals as goal

pub returns-then-not-takes_count : goal.returns-then-not-takes_count
returns-then-not-takes_count c =
    let t = c.args.table.now in
    let ids = c.args.ids.now in
    let r = rule_of c.args.head in
    record { keeps = keeps_same t; ends = rw c.fault_at.ensures (rule_count r c.args.at (clause_at t ids) (ap (takes_count r) (length-map ids (term_at t)) ∙ sym c.takes_count.ensures ∙ c.if-not-takes_count.true)) }

pub returns-then-not-sorts_fit : goal.returns-then-not-sorts_fit
returns-then-not-sorts_fit c =
    let t = c.args.table.now in
    let ids = c.args.ids.now in
    let r = rule_of c.args.head in
    record { keeps = keeps_same t; ends = rw c.fault_at-then-not-sorts_fit.ensures (rule_sorts r c.args.at (clause_at t ids) (ap (takes_count r) (length-map ids (term_at t)) ∙ sym c.takes_count.ensures ∙ c.if-not-takes_count.false) (sym c.sorts_fit.ensures ∙ c.if-not-sorts_fit.true)) }

pub returns-in-Some : goal.returns-in-Some
returns-in-Some c =
    let t = c.args.table.now in
    let ids = c.args.ids.now in
    let r = rule_of c.args.head in
    record { keeps = keeps_same t; ends = rw c.fault_at-in-Some.ensures (rule_fault r c.args.at (clause_at t ids) c.in-Some.fault (ap (takes_count r) (length-map ids (term_at t)) ∙ sym c.takes_count.ensures ∙ c.if-not-takes_count.false) (sym c.sorts_fit.ensures ∙ c.if-not-sorts_fit.false) (sym c.in-Some.ensures)) }

pub returns-in-Ok : goal.returns-in-Ok
returns-in-Ok c =
    let t = c.args.table.now in
    let ids = c.args.ids.now in
    let r = rule_of c.args.head in
    record {
      keeps = c.in-Ok.ensures.keeps;
      ends = (c.in-Ok.ensures.ends.0, rule_reads r c.args.at (clause_at t ids) (ap (takes_count r) (length-map ids (term_at t)) ∙ sym c.takes_count.ensures ∙ c.if-not-takes_count.false) (sym c.sorts_fit.ensures ∙ c.if-not-sorts_fit.false) (sym c.in_default.ensures) ∙ ap (λ u. Ok u) (sym c.in-Ok.ensures.ends.1));
    }
