-- The loop begins with the path, and ends where no edge is needed.
use Rattle.proof_log.specs.Theories.{derived}
use Rattle.std.proofs.Common.{[], List, refl, sym, subst, true≢false}
use Rattle.spec_text.proofs.General.{nothing_left}
use Rattle.congruence_explain.specs.declared.claims.Claim.TheVariants.{Equality}
use Rattle.congruence_explain.specs.declared.claims.SignedClaim.{SignedClaim}
use Rattle.congruence_explain.specs.Claims.{literal_claimed}
use Rattle.congruence_explain.specs.Steps.{setting, notes, steps_since, Going}
use Rattle.congruence_explain.proofs.Going.{going_start, newest_there, bound_falls, going_on, going_ends}
use Rattle.congruence_explain.proofs.collecting.collect.Goals as goal

pub edges-init : goal.edges-init
edges-init g c =
    let s = setting g.start.table c.args.truths c.args.forest.now.now in
    let x = c.args.x in
    let y = c.args.y in
    let asked = literal_claimed g.start.table (Equality x y) in
    let old = derived c.args.table.now c.args.log.now in
    let new = derived c.tell.new.table c.tell.new.log in
    let begun = going_start s (notes g.start old c.new-needed.result.keys []) (notes g.start new c.tell.new.needed.keys []) x y c.new-needed.ensures.empty refl c.requires.1.1.linked c.in_ok-tell.ensures.told in
    record {
      derives = c.tell.ensures.derives;
      going = subst (λ (ss : List SignedClaim). Going s asked (notes g.start new c.tell.new.needed.keys ss)) (sym c.new-stated.ensures.items) begun;
    }

pub turn-requires : goal.turn-requires
turn-requires g c =
    let s = setting g.start.table c.args.truths c.args.forest.now.now in
    let asked = literal_claimed g.start.table (Equality c.args.x c.args.y) in
    let steps = steps_since g.start (derived c.edges.table c.edges.log) in
    (c.edges.invariant.derives, (c.requires.1.0, newest_there s asked c.in-Some.k c.edges.needed.keys c.pop_last.new.self.keys steps c.edges.stated.items c.in-Some.ensures.removal c.in-Some.ensures.all_below c.edges.invariant.going))

pub edges-smaller : goal.edges-smaller
edges-smaller g c =
    let s = setting g.start.table c.args.truths c.args.forest.now.now in
    let asked = literal_claimed g.start.table (Equality c.args.x c.args.y) in
    let steps = steps_since g.start (derived c.edges.table c.edges.log) in
    let new = notes g.start (derived c.turn.new.table c.turn.new.log) c.turn.new.needed.keys c.turn.new.stated.items in
    bound_falls s asked c.in-Some.k c.edges.needed.keys c.pop_last.new.self.keys steps c.edges.stated.items c.in-Some.ensures.removal c.in-Some.ensures.all_below new c.in_ok-turn.ensures.on

pub edges-preserved : goal.edges-preserved
edges-preserved g c =
    let s = setting g.start.table c.args.truths c.args.forest.now.now in
    let asked = literal_claimed g.start.table (Equality c.args.x c.args.y) in
    let steps = steps_since g.start (derived c.edges.table c.edges.log) in
    let new = notes g.start (derived c.turn.new.table c.turn.new.log) c.turn.new.needed.keys c.turn.new.stated.items in
    record {
      derives = c.turn.ensures.derives;
      going = going_on s asked c.in-Some.k c.edges.needed.keys c.pop_last.new.self.keys steps c.edges.stated.items c.in-Some.ensures.removal c.in-Some.ensures.all_below new c.in_ok-turn.ensures.on c.edges.invariant.going;
    }

pub returns-clause-collected : goal.returns-clause-collected
returns-clause-collected g c =
    let s = setting g.start.table c.args.truths c.args.forest.now.now in
    let n = notes g.start (derived c.edges.table c.edges.log) c.edges.needed.keys c.edges.stated.items in
    let empty = nothing_left c.edges.needed.keys (λ lt. true≢false (sym (c.in_default.ensures.variant.1 lt))) in
    going_ends s n c.args.x c.args.y c.edges.stated.items refl empty c.edges.invariant.going
