-- From the beginning to an answer, with both theories.
use Rattle.std.proofs.Common.{◌+◌, [], ◌++◌, List, length, take, Contains, sym, ap, ◌∙◌, subst, refl, arith}
use Rattle.std.proofs.lemmas.List.{append-nil}
use Rattle.spec_sorts.specs.Terms.{Term}
use Rattle.spec_sorts.specs.Subterms.{subterms_of}
use Rattle.spec_sorts.specs.Subsets.{AreAmong}
use Rattle.spec_derivations.specs.Orders.{whole_terms}
use Rattle.spec_derivations.specs.Examples.{speaking}
use Rattle.term_core.specs.declared.ids.TermId.{TermId}
use Rattle.term_core.specs.Tables.{clause_at}
use Rattle.term_core.proofs.TermsExtend.{Extends-self}
use Rattle.proof_log.specs.Theories.{TheoryView}
use Rattle.congruence.specs.Views.{theory_of}
use Rattle.simplex.specs.Coming.{CameBy}
use Rattle.search_loop.specs.Search.{images}
use Rattle.search_loop.specs.Paying.{counted_among}
use Rattle.solve_core.specs.Sharing.{AreSharedOf}
use Rattle.solve_core.proofs.SearchStops.{front_among, strained_by, stop_shown}
use Rattle.solve_core.proofs.SearchWatching.{asked_begun}
use Rattle.solve_core.proofs.answering.begin_with.Goals as goal

pub returns-in-Err-clause-grown : goal.returns-in-Err-clause-grown
returns-in-Err-clause-grown g c = Extends-self c.args.table.now

pub returns-in-Err-clause-answers : goal.returns-in-Err-clause-answers
returns-in-Err-clause-answers g c =
    let t = c.args.table.now in
    let x = c.args.search.now in
    let a = c.requires.0 in
    let b = a.begun in
    let p = speaking g.asked a.interface in
    let theory = c.watch_all.new.theory in
    let stop = c.in-Err.stop in
    let es = x.budget.exchanges in
    let watched = (theory_of c.args.theory.now.congruence).watched in
    let h = rw c.in-Err.is at c.watch_all.ensures.stops in
    let ids = c.deref.result.now in
    let all = c.deref.ensures.value in
    let count = ap (counted_among t) all in
    let spoken : AreAmong (clause_at t ids) (whole_terms p) = λ u i. b.search.listed.only u (subst (λ (is : List TermId). Contains (clause_at t is) u) all i) in
    let among : AreAmong (clause_at t (watched ++ take (h.0 + 1) ids)) (whole_terms p) = λ u i. spoken u (front_among t [] ids watched (h.0 + 1) (ap (λ (v : TheoryView). v.watched) c.requires.1.1.0) u i) in
    let before = subst (λ made. CameBy t (whole_terms p) 0 made c.args.theory.now.simplex) (sym b.unspent) (c.requires.1.1.1.1.1 (whole_terms p)) in
    strained_by g.asked x.budget.limit t x a.interface a.apart.equalities (images t x.store.clauses) b.search.derived a.apart.apart b.ready.right refl stop
    (stop_shown t c.ids_are_unique.ensures x b.ready p b.search.listed.only 0 (omega arith) _ t theory.simplex (length x.budget.learned) (0 + counted_among t ids) es (clause_at t (watched ++ take (h.0 + 1) ids)) among (omega (arith, count)) stop
    (rw c.in-Err.is at (c.watch_all.ensures.came (whole_terms p) 0 es spoken before)) h.3)

pub try_and_search-requires : goal.try_and_search-requires
try_and_search-requires g c =
    let t = c.args.table.now in
    let x = c.args.search.now in
    let a = c.requires.0 in
    let b = a.begun in
    let p = speaking g.asked a.interface in
    let theory = c.watch_all.new.theory in
    let es = x.budget.exchanges in
    let all = c.deref.ensures.value in
    let watches = c.in_default.ensures.watches in
    let empty = c.requires.1.1.0 in (
      (
        record {
          ready = b.ready;
          asked = asked_begun t p x (theory_of theory.congruence) b (ap (λ (v : TheoryView). v.held) (watches) ∙ ap (λ (v : TheoryView). v.held) empty)
              (ap (λ (v : TheoryView). v.watched) watches ∙ ap (λ (v : TheoryView). v.watched ++ c.deref.result.now) empty ∙ all) (ap (λ (v : TheoryView). v.marks) watches ∙ ap (λ (v : TheoryView). v.marks) empty);
          congruence = c.watch_all.ensures.with.0;
          simplex = c.watch_all.ensures.with.1;
          terms = record {
            interface = a.interface;
            asked = record {
              asked = b.search;
              shared = subst (λ (us : List Term). AreSharedOf t (subterms_of us) c.args.shared.now) (sym (append-nil g.asked)) c.requires.1.0;
              apart = a.apart;
            };
          };
          grown = 0;
          few = omega arith;
          paid = λ ts among.
              let before = subst (λ made. CameBy t ts 0 made c.args.theory.now.simplex) (sym b.unspent) (c.requires.1.1.1.1.1 ts) in
              let came = c.in_default.ensures.came ts 0 es (λ u i. among u (subst (λ (is : List TermId). Contains (clause_at t is) u) all i)) before in
              (0 + counted_among t c.deref.result.now, omega (arith, ap (counted_among t) all), came);
        },
        refl,
      ),
      b.level,
    )
