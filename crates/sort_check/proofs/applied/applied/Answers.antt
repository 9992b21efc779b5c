-- What a name is.
use Rattle.std.proofs.Common.{sym, subst}
use Rattle.std.proofs.lemmas.List.{length-map}
use Rattle.spec_sorts.specs.Signatures.{known_as}
use Rattle.spec_sorts.specs.Theory.{look_up, theory}
use Rattle.spec_reading.specs.Reading.{applied_as}
use Rattle.term_core.specs.Tables.{term_at, clause_at}
use Rattle.term_reader.specs.Heads.{ReturnsTerm, EndsReading}
use Rattle.term_reader.proofs.Tables.{keeps_same}
use Rattle.sort_check.proofs.Bound.{bound_found, bound_none, bound_in}
use Rattle.sort_check.proofs.applied.applied.Goals as goal

pub returns-in-Some : goal.returns-in-Some
returns-in-Some c =
    let t = c.args.table.now in
    let b = c.args.bound.now in
    let n = c.args.called.name.now in
    let ts = clause_at t c.args.ids.now in
    let id = c.in-Some.id in
    λ s h. record {
      keeps = keeps_same t;
      ends = subst (λ o. EndsReading t (applied_as o (look_up theory n) (known_as s n) c.args.called.place c.args.called.at ts) c.by_bound.result) (sym (bound_found t b n id (sym c.in-Some.ensures)))
          (c.by_bound.ensures t ts (length-map c.args.ids.now (term_at t)) (bound_in t b n id c.requires.bound (sym c.in-Some.ensures)));
    }

pub returns-in-Some-named : goal.returns-in-Some-named
returns-in-Some-named c =
    let t = c.args.table.now in
    let b = c.args.bound.now in
    let n = c.args.called.name.now in
    let ts = clause_at t c.args.ids.now in
    λ s h. subst (λ a. ReturnsTerm t c.by_rule.new.table a c.by_rule.result)
    (λ i. applied_as (sym (bound_none t b n (sym c.in_default.ensures)) i) (c.in-Some-named.ensures i) (known_as s n) c.args.called.place c.args.called.at ts) c.by_rule.ensures

pub returns : goal.returns
returns c =
    let t = c.args.table.now in
    let b = c.args.bound.now in
    let n = c.args.called.name.now in
    let ts = clause_at t c.args.ids.now in
    λ s h. subst (λ a. ReturnsTerm t c.by_function.new.table a c.by_function.result)
    (λ i. applied_as (sym (bound_none t b n (sym c.in_default.ensures)) i) (c.in_default-named.ensures i) (known_as s n) c.args.called.place c.args.called.at ts) (c.by_function.ensures s h)
