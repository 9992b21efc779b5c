-- Term by term, and that a stop at one is over the terms up to it.
use Rattle.std.proofs.Common.{rules, ◌≡◌, ◌+◌, ◌<◌, ◌∙◌, ◌++◌, ◌∷◌, [], ℕ, List, take, get_or, length, sym, ap, subst, arith}
use Rattle.std.proofs.lemmas.List.{append-nil, take_all, take_more}
use Rattle.std.proofs.lemmas.List.Elements.{Contains-get_or}
use Rattle.spec_text.proofs.Members.{to_image}
use Rattle.term_core.specs.declared.ids.TermId.{TermId}
use Rattle.term_core.specs.Tables.{term_at, clause_at}
use Rattle.sat_budget.specs.declared.limits.Stop.{Stop}
use Rattle.sat_budget.specs.Budgets.{StopsBy}
use Rattle.proof_log.specs.Theories.{TheoryView, with_watched}
use Rattle.spec_causes.specs.Counts.{counted}
use Rattle.term_clauses.specs.SpokenTerms.{no_id}
use Rattle.search_loop.specs.Paying.{counted_among, IsPaid}
use Rattle.search_loop.proofs.SearchPays.{among_more, among_first, sum_more}
use Rattle.search_loop.proofs.SearchSpends.{handed_on, came_handed_on}
use Rattle.search_loop.proofs.SearchTheories.{watching, new_after, watched_more}
use Rattle.search_loop.proofs.watching.watch_all.Goals as goal

pub terms-init : goal.terms-init
terms-init g c =
    let v = (g.T.Theory.meaning c.args.theory.now).view in
    record {
      view = λ i. record { held = v.held; watched = sym (append-nil v.watched) i; marks = v.marks };
      goes = c.requires.with;
      came = λ ts n es among h. subst (λ k. (g.T.Theory.meaning c.args.theory.now).running.came_by c.args.table.now ts k es) (omega arith) h;
    }

pub watch_term-requires-clause-new : goal.watch_term-requires-clause-new
watch_term-requires-clause-new g c =
    let v = (g.T.Theory.meaning c.args.theory.now).view in
    let ids = c.args.terms.now in
    let k = c.terms.id-index in
    rw c.terms.invariant.view (new_after v.watched ids c.requires.once k c.terms-test.true)

pub terms-preserved : goal.terms-preserved
terms-preserved g c =
    let t = c.args.table.now in
    let v = (g.T.Theory.meaning c.args.theory.now).view in
    let ids = c.args.terms.now in
    let k = c.terms.id-index in
    let id = get_or ids k no_id in
    let more = c.terms-test.true in
    record {
      view = c.in_ok-watch_term.ensures.watches ∙ ap (λ (w : TheoryView). with_watched w id) c.terms.invariant.view ∙ ap (watching v) (watched_more v.watched ids k more);
      goes = c.watch_term.ensures.with;
      came = λ ts n es among h.
          let here = counted_among t (take k ids) in
          subst (λ m. (g.T.Theory.meaning c.watch_term.new.self).running.came_by t ts m es)
          (sum_more (term_at t id) n here ∙ ap (λ m. n + m) (sym (ap (counted_among t) (take_more ids k no_id more) ∙ among_more t (take k ids) id)))
          (c.in_ok-watch_term.ensures.came ts (n + here) es (among (term_at t id) (to_image (term_at t) ids id (Contains-get_or ids k no_id more)))
          (c.terms.invariant.came ts n es among h));
    }

pub returns : goal.returns
returns g c =
    let t = c.args.table.now in
    let v = (g.T.Theory.meaning c.args.theory.now).view in
    let ids = c.args.terms.now in
    let all = take_all c.terms.id-index ids (omega (arith, c.terms-test.false)) in
    record {
      with = c.terms.invariant.goes;
      watches = c.terms.invariant.view ∙ ap (λ (xs : List TermId). watching v (v.watched ++ xs)) all;
      came = λ ts n es among h. subst (λ (xs : List TermId). (g.T.Theory.meaning c.terms.theory).running.came_by t ts (n + counted_among t xs) es) all
          (c.terms.invariant.came ts n es among h);
      stops = tt;
    }

pub returns-in_err-watch_term : goal.returns-in_err-watch_term
returns-in_err-watch_term g c =
    let t = c.args.table.now in
    let v = (g.T.Theory.meaning c.args.theory.now).view in
    let ids = c.args.terms.now in
    let k = c.terms.id-index in
    let id = get_or ids k no_id in
    let here = counted_among t (take k ids) in
    let all = counted_among t ids in
    let after = (g.T.Theory.meaning c.watch_term.new.self).running in
    let stop = c.in_err-watch_term.field-0.0 in
    let shown : List TermId → Stop → Type 0 = λ watched stop. StopsBy (after.may_overflow t (clause_at t watched)) stop in
    let up_to = ap (λ (w : TheoryView). w.watched ++ id ∷ []) c.terms.invariant.view ∙ watched_more v.watched ids k c.terms-test.true in
    let before = ap (λ (w : TheoryView). w.watched) c.in_err-watch_term.ensures.watches ∙ ap (λ (w : TheoryView). w.watched) c.terms.invariant.view in
    record {
      with = c.watch_term.ensures.with;
      watches = search rules;
      came = λ ts n es among h.
          let came : ℕ → Type 0 = λ m. after.came_by t ts m es in
          let stopped : ℕ → Type 0 = λ m. after.stopped_by t ts m es in
          came_handed_on (λ _. came (counted (term_at t id) (n + here))) (λ _. came (n + all)) (stopped (n + here)) (IsPaid stopped (n + all))
          c.from_residual.result stop c.from_residual.ensures.1 (λ s. (n + here, omega (arith, among_first t k ids), s))
          (c.in_err-watch_term.ensures.came ts (n + here) es (among (term_at t id) (to_image (term_at t) ids id (Contains-get_or ids k no_id c.terms-test.true))) (c.terms.invariant.came ts n es among h));
      stops = handed_on (λ stop. (n : ℕ) × (n < length ids) × ((g.T.Theory.meaning c.watch_term.new.self).view.watched ≡ v.watched ++ take n ids) × shown (v.watched ++ take (n + 1) ids) stop)
          c.from_residual.result stop c.from_residual.ensures.1
          (k, c.terms-test.true, before, subst (λ watched. shown watched stop) up_to c.in_err-watch_term.ensures.stops);
    }
