-- One term after the other is assumed.
use Rattle.std.proofs.Common.{◌≡◌, ◌+◌, ◌++◌, List, [], ◌∷◌, take, get_or, ap, arith}
use Rattle.std.proofs.lemmas.List.{take_all}
use Rattle.std.proofs.lemmas.List.Elements.{Contains-get_or}
use Rattle.term_core.specs.declared.ids.TermId.{TermId}
use Rattle.term_core.specs.Tables.{term_at, clause_at}
use Rattle.proof_log.specs.Logs.{assumed}
use Rattle.term_clauses.specs.Growth.{Grows}
use Rattle.term_clauses.specs.Stating.{listed_steps, Tells}
use Rattle.term_clauses.proofs.Growing.{Grows-self, Grows-trans, Grows-push, Tells-push, Tells-none, Tells-trans, Tells-same}
use Rattle.clausify.proofs.Bases.{alone, alone_more}
use Rattle.term_clauses.proofs.Arguments.{no_number}
use Rattle.clausify.proofs.roots.assume_each.Goals as goal
use Rattle.clausify.proofs.roots.assume_each.Goals.{In_ok-assume}

pub roots-init : goal.roots-init
roots-init c = record {
  grows = Grows-self c.args.roots.now c.args.table.now c.args.log.now c.requires.log;
  tells = Tells-none c.args.table.now c.args.log.now c.args.steps.now.items;
}

-- one clause more
one_grows : (c : In_ok-assume) → Grows c.args.roots.now c.args.table.now c.args.table.now c.roots.log c.assume.new.self
one_grows c =
    let t = c.args.table.now in
    let roots = c.args.roots.now in
    let root = get_or roots c.roots.root-index no_number in
    let h = c.in_ok-assume.ensures in
    Grows-push roots t c.roots.log c.assume.new.self (assumed root) h.last (Contains-get_or roots c.roots.root-index no_number c.roots-test.true)
    (h.right t c.roots.invariant.grows.right (c.requires.roots c.roots.root-index no_number c.roots-test.true))

pub returns-in_err-push-clause-grows : goal.returns-in_err-push-clause-grows
returns-in_err-push-clause-grows c =
    let t = c.args.table.now in
    Grows-trans c.args.roots.now t t t c.args.log.now c.roots.log c.assume.new.self c.roots.invariant.grows (one_grows (goal.at.returns-in_err-push-clause-grows c).In_ok-assume)

pub roots-preserved : goal.roots-preserved
roots-preserved c =
    let t = c.args.table.now in
    let roots = c.args.roots.now in
    let k = c.roots.root-index in
    let root = get_or roots k no_number in
    let old = c.roots.log in
    let new = c.assume.new.self in
    let h = c.in_ok-assume.ensures in
    let steps = c.roots.steps.items in
    let all = c.push.new.self.items in
    let grows = one_grows (goal.at.roots-preserved c).In_ok-assume in
    let told = alone (clause_at t (take k roots)) in
    let clause = term_at t root ∷ [] in
    let one : Tells (listed_steps t old steps) (listed_steps t new all) (clause ∷ []) = Tells-push roots t old new (assumed root) c.in_ok-assume.field-0 steps all grows c.roots.invariant.grows.right h.number h.last c.in_ok-push.ensures.items in
    record {
      grows = Grows-trans roots t t t c.args.log.now old new c.roots.invariant.grows grows;
      tells = Tells-same t t c.args.log.now new c.args.steps.now.items all (told ++ clause ∷ []) (alone (clause_at t (take (k + 1) roots))) (alone_more t roots k no_number c.roots-test.true)
          (Tells-trans t t t c.args.log.now old new c.args.steps.now.items steps all told (clause ∷ []) c.roots.invariant.tells one);
    }

pub returns-clause-tells : goal.returns-clause-tells
returns-clause-tells c =
    let t = c.args.table.now in
    let roots = c.args.roots.now in
    let whole : take c.roots.root-index roots ≡ roots = take_all c.roots.root-index roots (omega (arith, c.roots-test.false)) in
    Tells-same t t c.args.log.now c.roots.log c.args.steps.now.items c.roots.steps.items (alone (clause_at t (take c.roots.root-index roots))) (alone (clause_at t roots)) (ap (λ (ids : List TermId). alone (clause_at t ids)) whole) c.roots.invariant.tells
