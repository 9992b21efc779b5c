-- A definition with the terms that got names.
use Rattle.std.proofs.Common.{[], ◌∷◌, ◌++◌, length, sym, ap, ◌∙◌, subst}
use Rattle.std.proofs.lemmas.List.{map-append}
use Rattle.spec_sorts.specs.Signatures.{Definition, with_definitions}
use Rattle.spec_reading.specs.Names.{is_function}
use Rattle.spec_reading.specs.Reading.{reading_of_sort}
use Rattle.spec_reading.specs.Definitions.{bound_parameters}
use Rattle.term_core.specs.Symbols.{HaveSortsIn, sort_meant}
use Rattle.term_reader.specs.declared.faults.ReadError.TheVariants.{Fault}
use Rattle.term_reader.specs.Names.{setting_meant}
use Rattle.term_reader.specs.Scopes.{ScopeView, ScopeMeans}
use Rattle.sort_check.specs.Defining.{parameters_at}
use Rattle.sort_check.specs.Reads.{parts_meant, store, HasFault}
use Rattle.sort_check.specs.Rows.{HasOne}
use Rattle.sort_check.specs.Walks.{AllMean, terms_of_definitions}
use Rattle.sort_check.proofs.Widening.{grows_same}
use Rattle.sort_check.proofs.Kept.{mean_push}
use Rattle.sort_check.proofs.NamesGiven.{fresh_is}
use Rattle.sort_check.proofs.Definitions.{inside, name_stops, parameters_stop, sort_stops, body_stops, whole_read, definition_means, macro_is}
use Rattle.sort_check.proofs.defining.read_whole.Goals as goal

pub returns-in-Err-clause-ends : goal.returns-in-Err-clause-ends
returns-in-Err-clause-ends c =
    let w = setting_meant c.args.setting in
    let d = parts_meant c.args.parts in
    λ s h.
    let taken = c.is_function-taken.ensures c.args.table.now s (record { sorts = h.sorts; functions = h.functions; count = h.count }) in
    name_stops w s d (Fault c.in-Err.fault) (sym (fresh_is w (is_function s) c.is_function-taken.result d.name taken) ∙ sym c.in-Err.ensures)

pub returns-in-Err-clause-grows : goal.returns-in-Err-clause-grows
returns-in-Err-clause-grows c = grows_same _

pub returns-in-Err-read_parameters-clause-grows : goal.returns-in-Err-read_parameters-clause-grows
returns-in-Err-read_parameters-clause-grows c = grows_same _

pub returns-in-Err-sort_in-clause-grows : goal.returns-in-Err-sort_in-clause-grows
returns-in-Err-sort_in-clause-grows c = grows_same _

pub returns-in-Err-read_parameters-clause-ends : goal.returns-in-Err-read_parameters-clause-ends
returns-in-Err-read_parameters-clause-ends c =
    let w = setting_meant c.args.setting in
    let d = parts_meant c.args.parts in
    let t = c.args.table.now in
    λ s h.
    let taken = c.is_function-taken.ensures t s (record { sorts = h.sorts; functions = h.functions; count = h.count }) in
    let fresh = sym (fresh_is w (is_function s) c.is_function-taken.result d.name taken) ∙ sym c.in-Ok.ensures in
    parameters_stop w s d c.in-Ok.name.now fresh c.in-Err-read_parameters.stop (c.in-Err-read_parameters.ensures t s h)

pub returns-in-Err-sort_in-clause-ends : goal.returns-in-Err-sort_in-clause-ends
returns-in-Err-sort_in-clause-ends c =
    let w = setting_meant c.args.setting in
    let d = parts_meant c.args.parts in
    let t = c.args.table.now in
    let p = c.in-Ok-read_parameters.parameters in
    λ s h.
    let taken = c.is_function-taken.ensures t s (record { sorts = h.sorts; functions = h.functions; count = h.count }) in
    let fresh = sym (fresh_is w (is_function s) c.is_function-taken.result d.name taken) ∙ sym c.in-Ok.ensures in
    let ps = c.in-Ok-read_parameters.ensures t s h in
    sort_stops w s d c.in-Ok.name.now fresh (parameters_at t p.0 p.1.items) ps.read (Fault c.in-Err-sort_in.fault) (c.in-Err-sort_in.ensures t s h)

pub read_body-requires-clause-long : goal.read_body-requires-clause-long
read_body-requires-clause-long c =
    let ps = c.in-Ok-read_parameters.ensures c.args.table.now c.requires.0 c.requires.1 in
    ps.long ∙ ap length (sym c.deref.ensures.value)

pub read_body-requires-clause-there : goal.read_body-requires-clause-there
read_body-requires-clause-there c =
    let ps = c.in-Ok-read_parameters.ensures c.args.table.now c.requires.0 c.requires.1 in
    subst (HaveSortsIn c.args.table.now.sorts) (sym c.deref.ensures.value) ps.there

pub read_body-requires-clause-sort : goal.read_body-requires-clause-sort
read_body-requires-clause-sort c = (c.in-Ok-sort_in.ensures c.args.table.now c.requires.0 c.requires.1).0

pub returns-in-Err-read_body-clause-ends : goal.returns-in-Err-read_body-clause-ends
returns-in-Err-read_body-clause-ends c =
    let w = setting_meant c.args.setting in
    let d = parts_meant c.args.parts in
    let t = c.args.table.now in
    let p = c.in-Ok-read_parameters.parameters in
    let n = c.in-Ok.name.now in
    let result = sort_meant t.sorts c.in-Ok-sort_in.sort in
    λ s h.
    let taken = c.is_function-taken.ensures t s (record { sorts = h.sorts; functions = h.functions; count = h.count }) in
    let fresh = sym (fresh_is w (is_function s) c.is_function-taken.result d.name taken) ∙ sym c.in-Ok.ensures in
    let ps = c.in-Ok-read_parameters.ensures t s h in
    let q = c.in-Ok-sort_in.ensures t s h in
    body_stops w s d n fresh (parameters_at t p.0 p.1.items) ps.read result q.1 c.in-Err-read_body.stop
    (subst (λ ss. HasFault (reading_of_sort (inside w n) s (bound_parameters 0 (parameters_at t p.0 ss)) result d.body) c.in-Err-read_body.stop) c.deref.ensures.value (c.in-Err-read_body.ensures.ends s h))

pub returns-clause-ends : goal.returns-clause-ends
returns-clause-ends c =
    let w = setting_meant c.args.setting in
    let d = parts_meant c.args.parts in
    let t = c.args.table.now in
    let u = c.read_body.new.table in
    let v = c.read_body.new.scope in
    let p = c.in-Ok-read_parameters.parameters in
    let n = c.in-Ok.name.now in
    let id = c.in-Ok-read_body.id in
    let sort = c.in-Ok-sort_in.sort in
    let result = sort_meant t.sorts sort in
    let params = parameters_at t p.0 p.1.items in
    λ s h.
    let taken = c.is_function-taken.ensures t s (record { sorts = h.sorts; functions = h.functions; count = h.count }) in
    let fresh = sym (fresh_is w (is_function s) c.is_function-taken.result d.name taken) ∙ sym c.in-Ok.ensures in
    let ps = c.in-Ok-read_parameters.ensures t s h in
    let q = c.in-Ok-sort_in.ensures t s h in
    let r = subst (λ ss. HasOne s (store u v) (reading_of_sort (inside w n) s (bound_parameters 0 (parameters_at t p.0 ss)) result d.body) (id, c.in-Ok-read_body.named.items)) c.deref.ensures.value (c.in-Ok-read_body.ensures.ends s h) in
    let made = r.reading.made in
    let it : Definition = record { name = n; parameters = params; result = result; body = d.body; term = r.reading.term } in
    let macro = macro_is t u c.read_body.ensures.grows.keeps p.0 p.1 sort id n d.body r.reading.term ps.long ps.there q.0 r.term in
    record {
      definitions = made ++ it ∷ [];
      read = whole_read w s d n fresh params ps.read result q.1 r.reading r.read;
      represents = subst (λ (x : ScopeView). ScopeMeans u x (with_definitions s (made ++ it ∷ []))) (sym c.in_default.ensures.added)
          (definition_means w s d n fresh params ps.read result q.1 r.reading r.read u v r.represents h.sorted (record { parameters = p.1; result = sort; body = id }) macro c.each_name_means_something.ensures.functions);
      terms = subst (λ ids. AllMean u ids (terms_of_definitions (made ++ it ∷ []))) (sym c.in_default-push.ensures.items)
          (subst (AllMean u (c.in-Ok-read_body.named.items ++ id ∷ [])) (sym (map-append (λ (x : Definition). x.term) made (it ∷ [])))
          (mean_push u c.in-Ok-read_body.named.items id (terms_of_definitions made) r.reading.term r.named r.term.0 r.term.1));
    }
