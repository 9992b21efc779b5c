-- One term more is judged.
use Rattle.std.proofs.Common.{◌≡◌, ◌<◌, ◌+◌, ◌∷◌, [], ◌&&◌, ℕ, Bool, List, false, length, get_or, sym, ap, subst, ◌∙◌, length-append, arith}
use Rattle.spec_sorts.specs.Terms.{no_term}
use Rattle.spec_proof_texts.specs.Plans.{is_compound}
use Rattle.alethe_writer.specs.declared.uses.Uses.TheVariants.{Never}
use Rattle.alethe_writer.specs.Uses.{is_once}
use Rattle.alethe_writer.proofs.Counts.{marked_more}
use Rattle.alethe_writer.proofs.uses.mark_single.Goals as goal

pub terms-preserved : goal.terms-preserved
terms-preserved c =
    let wanted : ℕ → Bool = λ k. get_or c.args.printed.now k false && (is_compound (get_or c.args.table.now.terms k no_term) && is_once (get_or c.args.uses.now k Never)) in
    let xs = c.terms.single.items in
    let y = c.is_single-wanted.result in
    let more = marked_more wanted xs c.terms.number y c.terms.invariant.as_many c.is_single-wanted.ensures c.terms.invariant.each in
    record {
      as_many = ap length c.in_ok-push.ensures.items ∙ omega (arith, length-append xs (y ∷ []), c.terms.invariant.as_many);
      each = subst (λ (ys : List Bool). (k : ℕ) → k < c.terms.number + 1 → get_or ys k false ≡ wanted k) (sym c.in_ok-push.ensures.items) more;
    }

pub returns : goal.returns
returns c = record {
  as_many = omega (arith, c.terms.invariant.as_many, c.terms-test.false, c.terms.auto.number-end, c.requires.as_many);
  each = λ k lt. c.terms.invariant.each k (omega (arith, lt, c.requires.as_many, c.terms-test.false));
}
