-- One clause after the other, from the end.
use Rattle.std.proofs.Common.{◌≡◌, ◌<◌, suc, ◌-◌, length, All, sym, ap, ◌∙◌, subst, arith}
use Rattle.std.proofs.lemmas.List.{length-map, get_or-map, get_or_default}
use Rattle.proof_log.specs.Logs.{no_logged, premises_in, logged_at}
use Rattle.proof_log.specs.Entries.{logged_of, log_of}
use Rattle.proof_log.specs.declared.premises.StepId.{StepId}
use Rattle.proof_log.specs.Keeping.{step_of}
use Rattle.proof_log.specs.Moving.{IsMarked}
use Rattle.proof_log.proofs.Marks.{IsMarking, IsGoingDown, down_begun, down_unmarked, down_marked}
use Rattle.proof_log.proofs.keeping.mark_derivations.Goals as goal

pub clauses-init : goal.clauses-init
clauses-init c =
    let es = c.args.entries.now.items in
    let e : length (log_of es) ≡ c.len-k.result = omega (arith, length-map es logged_of, c.len-k.ensures, c.args.entries.now.ok.0) in
    subst (IsGoingDown (log_of es) c.args.marks.now.items c.args.marks.now.items c.args.from) e (down_begun (log_of es) c.args.marks.now.items c.args.from)

pub index-requires : goal.index-requires
index-requires c = omega (arith, c.clauses.invariant.within, c.clauses.invariant.size, c.requires.size, length-map c.args.entries.now.items logged_of, c.clauses.marks.ok.0, c.clauses-test.true)

pub mark_premises-requires : goal.mark_premises-requires
mark_premises-requires c =
    let es = c.args.entries.now.items in
    let j = c.clauses.k - 1 in
    let lt : j < length es = omega (arith, c.clauses.invariant.within, length-map es logged_of, c.clauses-test.true) in
    let lt_log : j < length (log_of es) = omega (arith, lt, length-map es logged_of) in
    let same : logged_at (log_of es) (step_of j) ≡ logged_of c.index-then-index-eq1.result.now =
    get_or-map logged_of es j c.index-then-index-eq1.result.now no_logged lt ∙ ap logged_of (sym c.index-then-index-eq1.ensures) in
    record {
      there = λ i d low.
          let before : All (λ (p : StepId). p.0 < j) (premises_in (logged_of c.index-then-index-eq1.result.now)) = subst (λ l. All (λ (p : StepId). p.0 < j) (premises_in l)) same (c.requires.earlier j lt_log) in
          let size : length c.clauses.marks.items ≡ length es = c.clauses.invariant.size ∙ c.requires.size in
          omega (arith, before i d low, lt, size);
    }

pub clauses-preserved-then-index-eq1 : goal.clauses-preserved-then-index-eq1
clauses-preserved-then-index-eq1 c =
    let es = c.args.entries.now.items in
    let j = c.clauses.k - 1 in
    let next : suc j ≡ c.clauses.k = omega (arith, c.clauses-test.true) in
    let lt : j < length es = omega (arith, c.clauses.invariant.within, length-map es logged_of, c.clauses-test.true) in
    let lt_log : j < length (log_of es) = omega (arith, lt, length-map es logged_of) in
    let same : logged_at (log_of es) (step_of j) ≡ logged_of c.index-then-index-eq1.result.now =
    get_or-map logged_of es j c.index-then-index-eq1.result.now no_logged lt ∙ ap logged_of (sym c.index-then-index-eq1.ensures) in
    let here : j < length c.clauses.marks.items = omega (arith, lt, c.clauses.invariant.size, c.requires.size) in
    let marked : IsMarked c.clauses.marks.items (step_of j) = get_or_default c.clauses.marks.items j 0 c.index.result.now here ∙ sym c.index.ensures ∙ c.if-index-eq1.true in
    let m = c.mark_premises.ensures in
    let marking : IsMarking c.clauses.marks.items c.mark_premises.new.marks.items c.args.from (premises_in (logged_at (log_of es) (step_of j))) =
    subst (λ l. IsMarking c.clauses.marks.items c.mark_premises.new.marks.items c.args.from (premises_in l)) (sym same) (record { size = m.size; kept = m.kept; marked = m.marked; each = m.each }) in
    down_marked (log_of es) c.args.marks.now.items c.clauses.marks.items c.mark_premises.new.marks.items c.args.from j c.requires.earlier lt_log marked
    (subst (IsGoingDown (log_of es) c.args.marks.now.items c.clauses.marks.items c.args.from) (sym next) c.clauses.invariant) marking

pub clauses-preserved : goal.clauses-preserved
clauses-preserved c =
    let es = c.args.entries.now.items in
    let j = c.clauses.k - 1 in
    let next : suc j ≡ c.clauses.k = omega (arith, c.clauses-test.true) in
    let here : j < length c.clauses.marks.items = omega (arith, c.clauses.invariant.within, length-map es logged_of, c.clauses-test.true, c.clauses.invariant.size, c.requires.size) in
    down_unmarked (log_of es) c.args.marks.now.items c.clauses.marks.items c.args.from j
    (λ m. c.if-index-eq1.false (c.index.ensures ∙ get_or_default c.clauses.marks.items j c.index.result.now 0 here ∙ m))
    (subst (IsGoingDown (log_of es) c.args.marks.now.items c.clauses.marks.items c.args.from) (sym next) c.clauses.invariant)
