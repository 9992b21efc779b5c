-- That the clause is right, and what it shows.
use Rattle.proof_log.specs.Theories.{derived}
use Rattle.std.proofs.Common.{◌≡◌, ◌++◌, ◌∷◌, [], List, map, sym, ◌∙◌, ap, subst}
use Rattle.std.specs.Prelude.{All}
use Rattle.spec_text.specs.Trees.{none}
use Rattle.spec_rules.specs.Rules.{IsRight}
use Rattle.congruence_explain.specs.declared.claims.SignedClaim.{SignedClaim}
use Rattle.congruence_explain.specs.Rules.{arguments_rule}
use Rattle.congruence_explain.specs.Claims.{IsClaimOf, claim_as_term, claim_as_literal, equality_claim, all_unequal}
use Rattle.congruence_explain.specs.Steps.{spoken, steps_since}
use Rattle.congruence_explain.proofs.Meeting.{meet_at, ends_in, arguments_same, as_many, each_linked, arguments_in, arguments_right, arguments_shown}
use Rattle.congruence_explain.proofs.edges.tell_arguments.Goals as goal

pub arguments_of-requires : goal.arguments_of-requires
arguments_of-requires g c =
    let t = g.start.table in
    let ts = c.args.truths in
    let v = c.args.forest.now.now in
    let k = c.args.k in
    let f = g.start.facts in
    let b = c.requires.1.0 in
    let lt = c.requires.1.1.0 in
    let label = c.requires.1.1.1 in
    let a_is = ap (λ e. e.a) c.edge-edge.ensures in
    let b_is = ap (λ e. e.b) c.edge-edge.ensures in
    (ends_in t ts v f b k lt label c.edge-edge.result.a c.edge-edge.result.b a_is b_is c.args.table.now c.requires.0.table).0

pub arguments_of-requires-2 : goal.arguments_of-requires-2
arguments_of-requires-2 g c =
    let t = g.start.table in
    let ts = c.args.truths in
    let v = c.args.forest.now.now in
    let k = c.args.k in
    let f = g.start.facts in
    let b = c.requires.1.0 in
    let lt = c.requires.1.1.0 in
    let label = c.requires.1.1.1 in
    let a_is = ap (λ e. e.a) c.edge-edge.ensures in
    let b_is = ap (λ e. e.b) c.edge-edge.ensures in
    (ends_in t ts v f b k lt label c.edge-edge.result.a c.edge-edge.result.b a_is b_is c.args.table.now c.requires.0.table).1

pub tell_pairs-requires : goal.tell_pairs-requires
tell_pairs-requires g c =
    let t = g.start.table in
    let ts = c.args.truths in
    let v = c.args.forest.now.now in
    let k = c.args.k in
    let f = g.start.facts in
    let b = c.requires.1.0 in
    let lt = c.requires.1.1.0 in
    let label = c.requires.1.1.1 in
    let a_is = ap (λ e. e.a) c.edge-edge.ensures in
    let b_is = ap (λ e. e.b) c.edge-edge.ensures in
    let m = meet_at t ts v f b k lt label in
    let xs = c.deref.result.now in
    let ys = c.deref-2.result.now in
    let u = c.args.table.now in
    let more = c.requires.0.table in
    let xs_are = c.deref.ensures.value ∙ arguments_same t ts v f b k lt label u more c.ids_are_unique.ensures m.one m.one_there c.edge-edge.result.a (m.one_is ∙ sym a_is) c.in_ok-xs.xs.items c.in_ok-xs.ensures.there c.in_ok-xs.ensures.means in
    let ys_are = c.deref-2.ensures.value ∙ arguments_same t ts v f b k lt label u more c.ids_are_unique.ensures m.other m.other_there c.edge-edge.result.b (m.other_is ∙ sym b_is) c.in_ok-ys.ys.items c.in_ok-ys.ensures.there c.in_ok-ys.ensures.means in
    (c.requires.0, (c.requires.1.0, (as_many t ts v f b k lt label xs ys xs_are ys_are, each_linked t ts v f b k lt label xs ys xs_are ys_are)))

pub put_alone-requires : goal.put_alone-requires
put_alone-requires g c =
    let t = g.start.table in
    let ts = c.args.truths in
    let v = c.args.forest.now.now in
    let k = c.args.k in
    let f = g.start.facts in
    let b = c.requires.1.0 in
    let lt = c.requires.1.1.0 in
    let label = c.requires.1.1.1 in
    let a_is = ap (λ e. e.a) c.edge-edge.ensures in
    let b_is = ap (λ e. e.b) c.edge-edge.ensures in
    let m = meet_at t ts v f b k lt label in
    let xs = c.deref.result.now in
    let ys = c.deref-2.result.now in
    let u = c.args.table.now in
    let more = c.requires.0.table in
    let xs_are = c.deref.ensures.value ∙ arguments_same t ts v f b k lt label u more c.ids_are_unique.ensures m.one m.one_there c.edge-edge.result.a (m.one_is ∙ sym a_is) c.in_ok-xs.xs.items c.in_ok-xs.ensures.there c.in_ok-xs.ensures.means in
    let ys_are = c.deref-2.ensures.value ∙ arguments_same t ts v f b k lt label u more c.ids_are_unique.ensures m.other m.other_there c.edge-edge.result.b (m.other_is ∙ sym b_is) c.in_ok-ys.ys.items c.in_ok-ys.ensures.there c.in_ok-ys.ensures.means in
    let x = c.edge-edge.result.a in
    let y = c.edge-edge.result.b in
    let whole : c.deref-4.result.now ≡ all_unequal xs ys ++ equality_claim x y ∷ [] =
    c.deref-4.ensures.value ∙ c.in_ok-push.ensures.items ∙ (λ i. c.in_ok-clause.ensures.clause i ++ c.equality.ensures i ∷ []) in
    let rule : c.rule_of_arguments.result ≡ arguments_rule xs = c.rule_of_arguments.ensures ∙ ap arguments_rule (c.deref-3.ensures.value ∙ sym c.deref.ensures.value) in (
      c.tell_pairs.ensures.derives,
      (
        subst (λ (ss : List SignedClaim). All (λ s. IsClaimOf (spoken g.start) t s.claim) ss) (sym whole) (arguments_in t ts v f b k lt label xs ys xs_are ys_are x y a_is b_is),
        subst (λ (ss : List SignedClaim). IsRight c.rule_of_arguments.result [] none (map (claim_as_term t) ss)) (sym whole)
            (subst (λ r. IsRight r [] none (map (claim_as_term t) (all_unequal xs ys ++ equality_claim x y ∷ []))) (sym rule) (arguments_right t ts v f b k lt label xs ys xs_are ys_are x y a_is b_is)),
      ),
    )

pub returns-clause-told : goal.returns-clause-told
returns-clause-told g c =
    let t = g.start.table in
    let ts = c.args.truths in
    let v = c.args.forest.now.now in
    let k = c.args.k in
    let f = g.start.facts in
    let b = c.requires.1.0 in
    let lt = c.requires.1.1.0 in
    let label = c.requires.1.1.1 in
    let a_is = ap (λ e. e.a) c.edge-edge.ensures in
    let b_is = ap (λ e. e.b) c.edge-edge.ensures in
    let m = meet_at t ts v f b k lt label in
    let xs = c.deref.result.now in
    let ys = c.deref-2.result.now in
    let u = c.args.table.now in
    let more = c.requires.0.table in
    let xs_are = c.deref.ensures.value ∙ arguments_same t ts v f b k lt label u more c.ids_are_unique.ensures m.one m.one_there c.edge-edge.result.a (m.one_is ∙ sym a_is) c.in_ok-xs.xs.items c.in_ok-xs.ensures.there c.in_ok-xs.ensures.means in
    let ys_are = c.deref-2.ensures.value ∙ arguments_same t ts v f b k lt label u more c.ids_are_unique.ensures m.other m.other_there c.edge-edge.result.b (m.other_is ∙ sym b_is) c.in_ok-ys.ys.items c.in_ok-ys.ensures.there c.in_ok-ys.ensures.means in
    let x = c.edge-edge.result.a in
    let y = c.edge-edge.result.b in
    let whole : c.deref-4.result.now ≡ all_unequal xs ys ++ equality_claim x y ∷ [] =
    c.deref-4.ensures.value ∙ c.in_ok-push.ensures.items ∙ (λ i. c.in_ok-clause.ensures.clause i ++ c.equality.ensures i ∷ []) in
    let old = steps_since g.start (derived c.args.table.now c.args.log.now) in
    let mid = steps_since g.start (derived c.tell_pairs.new.table c.tell_pairs.new.log) in
    let new = steps_since g.start (derived c.put_alone.new.table c.put_alone.new.log) in
    arguments_shown t ts v f b k lt label xs ys xs_are ys_are x y a_is b_is c.args.needed.now.keys c.tell_pairs.new.needed.keys old mid new c.in_ok-clause.ensures.told
    (c.in_ok-put_alone.ensures.put.last ∙ ap (λ ss. mid ++ map (claim_as_literal t) ss ∷ []) whole)
