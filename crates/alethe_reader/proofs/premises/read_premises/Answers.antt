-- One premise more, or the end, or a fault.
use Rattle.std.proofs.Common.{ℕ, ◌<◌, ap, ◌∙◌, length, Vec, Global}
use Rattle.std.proofs.lemmas.List.{map_push}
use Rattle.std.proofs.lemmas.List.Elements.{All-push}
use Rattle.spec_checking.specs.Reading.{premises_of}
use Rattle.smt_sexpr.specs.Items.{trees_meant}
use Rattle.alethe_reader.specs.Holding.{clause_numbered, clauses_numbered}
use Rattle.alethe_reader.specs.Parts.{known_entries}
use Rattle.alethe_reader.proofs.PremiseLists.{with_front, premises_end, premises_more, premises_fail}
use Rattle.alethe_reader.proofs.premises.read_premises.Goals as goal

pub returns-in_default-clause-gives : goal.returns-in_default-clause-gives
returns-in_default-clause-gives c = premises_end (known_entries c.args.state.now) _ _ _ c.premises.invariant.gives (rw c.in_default.is at c.split.ensures.first)

pub returns-in-Err-clause-gives : goal.returns-in-Err-clause-gives
returns-in-Err-clause-gives c = premises_fail (known_entries c.args.state.now) _ _ _ c.premises.invariant.gives _ _ c.in-Some.ensures.first {Y = Vec ℕ Global} (clause_numbered c.args.state.now) (λ v. clauses_numbered c.args.state.now v.items) c.in-Err.error c.in-Err.ensures.gives

pub premises-preserved : goal.premises-preserved
premises-preserved c =
    let k = known_entries c.args.state.now in
    record {
      gives = ap (λ xs. with_front xs (premises_of k (trees_meant c.in-Some.others))) (ap (clauses_numbered c.args.state.now) c.in_ok-push-in-Ok.ensures.items ∙ map_push (clause_numbered c.args.state.now) c.premises.made.items c.in-Ok.number) ∙ premises_more k _ _ _ c.premises.invariant.gives _ _ c.in-Some.ensures.first _ c.in-Ok.ensures.gives;
      there = rw c.in_ok-push-in-Ok.ensures.items (All-push (λ n. n < length c.args.state.now.clauses.items) c.premises.made.items c.in-Ok.number c.premises.invariant.there c.in-Ok.ensures.there);
    }
