-- The order fact of one marked term more come.
use Rattle.std.proofs.Common.{◌≡◌, ◌+◌, ◌<◌, ◌++◌, Bool, List, length, take, ap, arith}
use Rattle.std.proofs.lemmas.List.{take_all}
use Rattle.spec_derivations.specs.Orders.{order_facts}
use Rattle.term_core.specs.declared.ids.TermId.{TermId}
use Rattle.term_core.specs.Tables.{term_at}
use Rattle.term_core.proofs.TermsExtend.{term_at-kept}
use Rattle.term_clauses.specs.SpokenTerms.{HasMore}
use Rattle.term_clauses.proofs.Arguments.{Widens-self, Widens-trans}
use Rattle.term_clauses.proofs.Bases.{flat_marked, flat_marked_more, flat_marked_same, marked_term}
use Rattle.term_clauses.proofs.Speaking.{more_none, more_trans, more_same}
use Rattle.clausify.proofs.ordered.add_facts.Goals as goal

pub marks-init : goal.marks-init
marks-init c = record { wider = Widens-self c.args.table.now; more = more_none c.args.table.now c.args.ids.now.items c.requires.ids }

pub marks-preserved-then-not-marks-number : goal.marks-preserved-then-not-marks-number
marks-preserved-then-not-marks-number c =
    let t = c.args.table.now in
    let marks = c.args.marks.now in
    let n = c.marks.number in
    record {
      wider = c.marks.invariant.wider;
      more = more_same t c.marks.table c.args.ids.now.items c.marks.ids.items (flat_marked order_facts (take n marks) t.terms) (flat_marked order_facts (take (n + 1) marks) t.terms) (flat_marked_same order_facts marks t.terms n c.marks-test.true c.requires.short c.if-not-marks-number.true) c.marks.invariant.more;
    }

pub add_fact-requires-clause-there : goal.add_fact-requires-clause-there
add_fact-requires-clause-there c = marked_term c.args.table.now c.marks.table c.marks.invariant.wider c.args.marks.now c.requires.short c.requires.sorted c.marks.number c.marks-test.true c.if-not-marks-number.false

pub returns-in_err-add_fact-clause-wider : goal.returns-in_err-add_fact-clause-wider
returns-in_err-add_fact-clause-wider c = Widens-trans c.args.table.now c.marks.table c.add_fact.new.table c.marks.invariant.wider c.add_fact.ensures.wider

pub marks-preserved : goal.marks-preserved
marks-preserved c =
    let t = c.args.table.now in
    let now = c.marks.table in
    let new = c.add_fact.new.table in
    let h = c.marks.invariant in
    let marks = c.args.marks.now in
    let n = c.marks.number in
    let id : TermId = record { 0 = n } in
    let told = flat_marked order_facts (take n marks) t.terms in
    let lt : n < length t.terms = omega (arith, c.marks-test.true, c.requires.short) in
    let same : order_facts (term_at now id) ≡ order_facts (term_at t id) = ap order_facts (term_at-kept t now h.wider.terms id lt) in
    let start = c.args.ids.now.items in
    let all = c.add_fact.new.ids.items in
    let one : HasMore now new c.marks.ids.items all (order_facts (term_at t id)) = more_same now new c.marks.ids.items all (order_facts (term_at now id)) (order_facts (term_at t id)) same c.in_ok-add_fact.ensures.more in
    record {
      wider = Widens-trans t now new h.wider c.add_fact.ensures.wider;
      more = more_same t new start all (told ++ order_facts (term_at t id)) (flat_marked order_facts (take (n + 1) marks) t.terms) (flat_marked_more order_facts marks t.terms n c.marks-test.true c.requires.short c.if-not-marks-number.false)
          (more_trans t now new start c.marks.ids.items all told (order_facts (term_at t id)) h.more one);
    }

pub returns-clause-more : goal.returns-clause-more
returns-clause-more c =
    let t = c.args.table.now in
    let marks = c.args.marks.now in
    let whole : take c.marks.number marks ≡ marks = take_all c.marks.number marks (omega (arith, c.marks-test.false)) in
    more_same t c.marks.table c.args.ids.now.items c.marks.ids.items (flat_marked order_facts (take c.marks.number marks) t.terms) (flat_marked order_facts marks t.terms) (ap (λ (ms : List Bool). flat_marked order_facts ms t.terms) whole) c.marks.invariant.more
