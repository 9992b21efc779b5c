-- One marked term after the other has its clauses.
use Rattle.std.proofs.Common.{◌≡◌, ◌+◌, ◌++◌, ◌<◌, Bool, List, [], ◌∷◌, length, take, Contains, sym, ap, subst, arith}
use Rattle.std.proofs.lemmas.List.{take_all}
use Rattle.spec_derivations.specs.Orders.{whole_clauses_of}
use Rattle.term_core.specs.declared.ids.TermId.{TermId}
use Rattle.term_core.specs.Tables.{term_at}
use Rattle.term_core.proofs.TermsExtend.{term_at-kept}
use Rattle.term_clauses.specs.Stating.{listed_steps, Tells}
use Rattle.term_clauses.specs.Marks.{marked}
use Rattle.term_clauses.proofs.Marked.{in_marked}
use Rattle.term_clauses.proofs.Growing.{Grows-self, Grows-trans, Tells-none, Tells-trans, Tells-same}
use Rattle.term_clauses.proofs.Bases.{flat_marked, flat_marked_more, flat_marked_same, marked_term}
use Rattle.spec_causes.specs.Checks.{IsOverflowAmong}
use Rattle.clausify.proofs.Overflowing.{passed_on, alone_among}
use Rattle.clausify.proofs.roots.state_marked.Goals as goal

pub marks-init : goal.marks-init
marks-init c = record {
  grows = Grows-self [] c.args.table.now c.args.log.now c.requires.log;
  tells = Tells-none c.args.table.now c.args.log.now c.args.steps.now.items;
}

pub marks-preserved-then-not-marks-number : goal.marks-preserved-then-not-marks-number
marks-preserved-then-not-marks-number c =
    let t = c.args.table.now in
    let marks = c.args.marks.now in
    let n = c.marks.number in
    record {
      grows = c.marks.invariant.grows;
      tells = Tells-same t c.marks.table c.args.log.now c.marks.log c.args.steps.now.items c.marks.steps.items (flat_marked whole_clauses_of (take n marks) t.terms) (flat_marked whole_clauses_of (take (n + 1) marks) t.terms) (flat_marked_same whole_clauses_of marks t.terms n c.marks-test.true c.requires.short c.if-not-marks-number.true) c.marks.invariant.tells;
    }

pub state_whole-requires-clause-there : goal.state_whole-requires-clause-there
state_whole-requires-clause-there c =
    let g = c.marks.invariant.grows in
    marked_term c.args.table.now c.marks.table (record { terms = g.table; declared = g.declared }) c.args.marks.now c.requires.short c.requires.sorted c.marks.number c.marks-test.true c.if-not-marks-number.false

pub returns-in_err-state_whole-clause-grows : goal.returns-in_err-state_whole-clause-grows
returns-in_err-state_whole-clause-grows c = Grows-trans [] c.args.table.now c.marks.table c.state_whole.new.table c.args.log.now c.marks.log c.state_whole.new.log c.marks.invariant.grows c.state_whole.ensures.grows

pub returns-in_err-state_whole-clause-wide : goal.returns-in_err-state_whole-clause-wide
returns-in_err-state_whole-clause-wide c =
    let t = c.args.table.now in
    let now = c.marks.table in
    let marks = c.args.marks.now in
    let n = c.marks.number in
    let id : TermId = record { 0 = n } in
    let lt : n < length t.terms = omega (arith, c.marks-test.true, c.requires.short) in
    let same : term_at now id ≡ term_at t id = term_at-kept t now c.marks.invariant.grows.table id lt in
    let there : Contains (marked marks t.terms) (term_at now id) =
    subst (Contains (marked marks t.terms)) (sym same) (in_marked marks t.terms c.requires.short n c.if-not-marks-number.false) in
    passed_on (IsOverflowAmong (term_at now id ∷ [])) (IsOverflowAmong (marked marks t.terms)) c.from_residual.result c.in_err-state_whole.field-0.0 c.from_residual.ensures.1 (alone_among (term_at now id) (marked marks t.terms) there) c.in_err-state_whole.ensures.wide

pub marks-preserved : goal.marks-preserved
marks-preserved c =
    let t = c.args.table.now in
    let now = c.marks.table in
    let new = c.state_whole.new.table in
    let h = c.marks.invariant in
    let marks = c.args.marks.now in
    let n = c.marks.number in
    let id : TermId = record { 0 = n } in
    let term = term_at t id in
    let told = flat_marked whole_clauses_of (take n marks) t.terms in
    let lt : n < length t.terms = omega (arith, c.marks-test.true, c.requires.short) in
    let same : whole_clauses_of (term_at now id) ≡ whole_clauses_of term = ap whole_clauses_of (term_at-kept t now h.grows.table id lt) in
    let one : Tells (listed_steps now c.marks.log c.marks.steps.items) (listed_steps new c.state_whole.new.log c.state_whole.new.steps.items) (whole_clauses_of term) = Tells-same now new c.marks.log c.state_whole.new.log c.marks.steps.items c.state_whole.new.steps.items (whole_clauses_of (term_at now id)) (whole_clauses_of term) same c.in_ok-state_whole.ensures.tells in
    record {
      grows = Grows-trans [] t now new c.args.log.now c.marks.log c.state_whole.new.log h.grows c.state_whole.ensures.grows;
      tells = Tells-same t new c.args.log.now c.state_whole.new.log c.args.steps.now.items c.state_whole.new.steps.items (told ++ whole_clauses_of term) (flat_marked whole_clauses_of (take (n + 1) marks) t.terms) (flat_marked_more whole_clauses_of marks t.terms n c.marks-test.true c.requires.short c.if-not-marks-number.false)
          (Tells-trans t now new c.args.log.now c.marks.log c.state_whole.new.log c.args.steps.now.items c.marks.steps.items c.state_whole.new.steps.items told (whole_clauses_of term) h.tells one);
    }

pub returns-clause-tells : goal.returns-clause-tells
returns-clause-tells c =
    let t = c.args.table.now in
    let marks = c.args.marks.now in
    let whole : take c.marks.number marks ≡ marks = take_all c.marks.number marks (omega (arith, c.marks-test.false)) in
    Tells-same t c.marks.table c.args.log.now c.marks.log c.args.steps.now.items c.marks.steps.items (flat_marked whole_clauses_of (take c.marks.number marks) t.terms) (flat_marked whole_clauses_of marks t.terms) (ap (λ (ms : List Bool). flat_marked whole_clauses_of ms t.terms) whole) c.marks.invariant.tells
