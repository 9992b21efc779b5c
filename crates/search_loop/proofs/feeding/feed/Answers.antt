-- Literal by literal.
use Rattle.std.proofs.Common.{◌≡◌, ◌+◌, ◌<◌, ◌∙◌, List, length, get_or, take, sym, ap, subst, arith}
use Rattle.std.proofs.lemmas.List.{take_all, take_more}
use Rattle.std.proofs.lemmas.List.Elements.{Contains-get_or}
use Rattle.spec_causes.specs.Counts.{counted}
use Rattle.term_core.specs.declared.ids.Lit.{Lit}
use Rattle.term_core.specs.Tables.{term_at}
use Rattle.proof_log.specs.Theories.{TheoryView}
use Rattle.sat_trail.specs.Trails.{no_lit}
use Rattle.search_loop.specs.Paying.{counted_held}
use Rattle.search_loop.proofs.SearchPays.{held_more, both_more}
use Rattle.search_loop.proofs.SearchTheories.{fed, new_at}
use Rattle.search_loop.proofs.feeding.feed.Goals as goal

pub places-init : goal.places-init
places-init g c = record {
  view = λ i. record {
    held = c.requires.front i;
    watched = (g.T.Theory.meaning c.args.theory.now).view.watched;
    marks = (g.T.Theory.meaning c.args.theory.now).view.marks;
  };
  goes = λ t h. h;
  came = λ t ts n es with h. (n, h, ap (λ (xs : List Lit). n + counted_held t xs) c.requires.front);
}

pub assume_lit-requires-clause-watched : goal.assume_lit-requires-clause-watched
assume_lit-requires-clause-watched g c =
    let lt : c.places.place < length c.args.trail.now.literals = omega (arith, c.places-test.true, c.len-place-end.ensures) in
    rw (c.places.invariant.view, c.literal.ensures) (c.requires.watched (get_or c.args.trail.now.literals c.places.place no_lit) (Contains-get_or c.args.trail.now.literals c.places.place no_lit lt))

pub assume_lit-requires-clause-new : goal.assume_lit-requires-clause-new
assume_lit-requires-clause-new g c =
    let lt : c.places.place < length c.args.trail.now.literals = omega (arith, c.places-test.true, c.len-place-end.ensures) in
    rw (c.places.invariant.view, c.literal.ensures) (new_at c.args.trail.now.literals c.is_sound.ensures.once c.places.place lt)

pub places-preserved : goal.places-preserved
places-preserved g c =
    let ls = c.args.trail.now.literals in
    let lt : c.places.place < length ls = omega (arith, c.places-test.true, c.len-place-end.ensures) in
    record {
      view = c.assume_lit.ensures.holds ∙ rw (c.places.invariant.view, c.literal.ensures) (ap (λ (xs : List Lit). fed (g.T.Theory.meaning c.args.theory.now).view xs) (sym (take_more ls c.places.place no_lit lt)));
      goes = λ t h. c.assume_lit.ensures.with t (c.places.invariant.goes t h);
      came = λ t ts n es with h.
          let before = c.places.invariant.came t ts n es with h in
          let l = get_or ls c.places.place no_lit in
          let held : counted_held t (take (c.places.place + 1) ls) ≡ counted (term_at t l.term) (counted_held t (take c.places.place ls)) =
          ap (counted_held t) (take_more ls c.places.place no_lit lt) ∙ held_more t (take c.places.place ls) l in (
            counted (term_at t l.term) before.0,
            subst (λ (m : Lit). (g.T.Theory.meaning c.assume_lit.new.self).running.came_by t ts (counted (term_at t m.term) before.0) es) c.literal.ensures
                (c.assume_lit.ensures.came t ts before.0 es (c.places.invariant.goes t with) before.1),
            both_more (term_at t l.term) before.0 n (counted_held t (g.T.Theory.meaning c.args.theory.now).view.held) (counted_held t (take c.places.place ls)) before.2
                ∙ ap (λ k. n + k) (sym held),
          );
    }

pub returns : goal.returns
returns g c =
    let ls = c.args.trail.now.literals in
    let all = take_all c.places.place ls (omega (arith, c.places-test.false, c.len-place-end.ensures)) in
    let holds = c.places.invariant.view ∙ ap (λ (xs : List Lit). fed (g.T.Theory.meaning c.args.theory.now).view xs) all in
    record {
      holds = holds;
      with = c.places.invariant.goes;
      came = λ t ts n es with h.
          let z = c.places.invariant.came t ts n es with h in (
            z.0,
            z.1,
            z.2 ∙ ap (λ (xs : List Lit). n + counted_held t xs) (all ∙ sym (ap (λ (v : TheoryView). v.held) holds)),
          );
    }
