-- One number after the other.
use Rattle.std.proofs.Common.{inl, inr, ◌≡◌, ◌<◌, ◌+◌, ℕ, List, length, set, get_or, Contains, All, sym, ◌∙◌, subst, arith}
use Rattle.std.proofs.lemmas.Bool.{cases_eq, cases_lt}
use Rattle.std.proofs.lemmas.List.{length-set}
use Rattle.proof_log.specs.declared.premises.StepId.{StepId}
use Rattle.proof_log.specs.Keeping.{step_of}
use Rattle.proof_log.proofs.Marks.{set_here, set_there, marking_none, marking_more, marking_all}
use Rattle.proof_log.proofs.keeping.mark_names.Invariants.{IsCleared}
use Rattle.proof_log.proofs.keeping.mark_names.Goals as goal

-- one zero more
cleared_more : (now : List ℕ) (size from k : ℕ) → k < length now → IsCleared now size from k → IsCleared (set now k 0) size from (k + 1)
cleared_more now size from k lt h = record {
  same = length-set now k 0 ∙ h.same;
  zero = λ n le low. elim (cases_eq n k) as (λ _. get_or (set now k 0) n 0 ≡ 0) [
    | inl e ↦ subst (λ x. get_or (set now k 0) x 0 ≡ 0) (sym e) (set_here now k 0 lt)
    | inr differs ↦ set_there now k 0 n differs ∙ h.zero n le (elim (cases_lt n k) as (λ _. n < k) [ inl below ↦ below | inr above ↦ absurd (differs (omega (arith, above, low))) ])
  ];
}

pub clear-preserved : goal.clear-preserved
clear-preserved c = cleared_more c.clear.marks.items (length c.args.marks.now.items) c.args.from c.clear.k (omega (arith, c.clear-test.true, c.clear.auto.k-end, c.clear.invariant.same, c.len-k-end.ensures, c.args.marks.now.ok.0, c.clear.marks.ok.0)) c.clear.invariant

pub names-init : goal.names-init
names-init c = record {
  cleared = record {
    same = c.clear.invariant.same;
    zero = λ n le low. c.clear.invariant.zero n le (omega (arith, low, c.clear-test.false, c.len-k-end.ensures, c.args.marks.now.ok.0));
  };
  marking = marking_none c.clear.marks.items c.args.from;
}

pub names-preserved : goal.names-preserved
names-preserved c =
    let i = c.names.invariant in
    let there : All (λ (p : StepId). p.0 < length c.clear.marks.items) c.args.names.now = subst (λ n. All (λ (p : StepId). p.0 < n) c.args.names.now) (sym c.clear.invariant.same) c.requires.names in
    record {
      cleared = i.cleared;
      marking = marking_more c.clear.marks.items c.names.marks.items c.mark_one.new.marks.items c.args.from c.names.s-index (step_of 0) c.args.names.now c.names-test.true there i.marking c.mark_one.ensures;
    }

pub returns-clause-marked : goal.returns-clause-marked
returns-clause-marked c s le low m =
    let i = c.names.invariant in
    let all = marking_all c.clear.marks.items c.names.marks.items c.args.from c.names.s-index c.args.names.now (omega (arith, c.names-test.false)) i.marking in
    elim (all.marked s m) as (λ _. Contains c.args.names.now s) [
      | inl was ↦ absurd (let e : 0 ≡ 1 = sym (i.cleared.zero s.0 le low) ∙ was in omega (arith, e))
      | inr h ↦ h
    ]

pub returns-clause-each : goal.returns-clause-each
returns-clause-each c s le h =
    let all = marking_all c.clear.marks.items c.names.marks.items c.args.from c.names.s-index c.args.names.now (omega (arith, c.names-test.false)) c.names.invariant.marking in
    all.each s le h
