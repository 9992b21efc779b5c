-- One argument after the other has its clause.
use Rattle.std.proofs.Common.{◌≡◌, ◌+◌, ◌++◌, ◌<◌, List, [], ◌∷◌, length, map, take, get_or, ap, ap₂, arith}
use Rattle.std.proofs.lemmas.List.{take_all}
use Rattle.spec_sorts.specs.Terms.{Term}
use Rattle.spec_sorts.specs.Literals.{Clause}
use Rattle.spec_sorts.specs.Terms.{no_term}
use Rattle.spec_sorts.specs.Subsets.{arguments_of}
use Rattle.spec_rules.specs.Schemes.{signed_term}
use Rattle.term_core.specs.Tables.{term_at}
use Rattle.term_core.proofs.TermsExtend.{term_at-kept}
use Rattle.term_clauses.specs.Stating.{listed_steps, Tells, before}
use Rattle.term_clauses.proofs.Growing.{Grows-self, Grows-trans, Tells-none, Tells-trans, Tells-same}
use Rattle.term_clauses.proofs.Parts.{ComesBefore-kept}
use Rattle.term_clauses.proofs.SchemeClauses.{clauses_more, right_same}
use Rattle.term_clauses.proofs.statements.state_any.Goals as goal

pub places-init : goal.places-init
places-init c = record {
  grows = Grows-self [] c.args.table.now c.args.log.now c.requires.log;
  tells = Tells-none c.args.table.now c.args.log.now c.args.steps.now.items;
}

pub state_single-requires-clause-there : goal.state_single-requires-clause-there
state_single-requires-clause-there c =
    let g = c.places.invariant.grows in
    ComesBefore-kept c.args.table.now c.places.table (record { terms = g.table; declared = g.declared }) c.args.id c.args.front c.requires.there

pub state_single-requires-clause-right : goal.state_single-requires-clause-right
state_single-requires-clause-right c =
    let t = c.args.table.now in
    let now = c.places.table in
    let grown = c.places.invariant.grows.table in
    let args = arguments_of (term_at t c.args.id) in
    let lt : c.places.place < length args = omega (arith, c.places-test.true, c.argument_count-count.ensures) in
    right_same c.args.rule (term_at t c.args.front) (term_at now c.args.front) args (arguments_of (term_at now c.args.id)) c.args.positive c.places.place
    (term_at-kept t now grown c.args.front c.requires.there.first.0)
    (ap arguments_of (term_at-kept t now grown c.args.id c.requires.there.there))
    lt c.requires.right

pub returns-in_err-state_single-clause-grows : goal.returns-in_err-state_single-clause-grows
returns-in_err-state_single-clause-grows c = Grows-trans [] c.args.table.now c.places.table c.state_single.new.table c.args.log.now c.places.log c.state_single.new.log c.places.invariant.grows c.state_single.ensures.grows

pub places-preserved : goal.places-preserved
places-preserved c =
    let t = c.args.table.now in
    let now = c.places.table in
    let new = c.state_single.new.table in
    let h = c.places.invariant in
    let p = c.args.positive in
    let k = c.places.place in
    let front = term_at t c.args.front in
    let args = arguments_of (term_at t c.args.id) in
    let f : Term → Clause = λ u. signed_term p u ∷ [] in
    let lt : k < length args = omega (arith, c.places-test.true, c.argument_count-count.ensures) in
    let told = before front (map f (take k args)) in
    let clause = front ∷ f (get_or args k no_term) in
    let made : Clause = term_at now c.args.front ∷ signed_term p (get_or (arguments_of (term_at now c.args.id)) k no_term) ∷ [] in
    let same : made ≡ clause = ap₂ (λ (x u : Term). x ∷ signed_term p (get_or (arguments_of u) k no_term) ∷ []) (term_at-kept t now h.grows.table c.args.front c.requires.there.first.0) (term_at-kept t now h.grows.table c.args.id c.requires.there.there) in
    let one : Tells (listed_steps now c.places.log c.places.steps.items) (listed_steps new c.state_single.new.log c.state_single.new.steps.items) (clause ∷ []) = Tells-same now new c.places.log c.state_single.new.log c.places.steps.items c.state_single.new.steps.items (made ∷ []) (clause ∷ []) (ap (λ (ls : Clause). ls ∷ []) same) c.in_ok-state_single.ensures.tells in
    record {
      grows = Grows-trans [] t now new c.args.log.now c.places.log c.state_single.new.log h.grows c.state_single.ensures.grows;
      tells = Tells-same t new c.args.log.now c.state_single.new.log c.args.steps.now.items c.state_single.new.steps.items (told ++ clause ∷ []) (before front (map f (take (k + 1) args))) (clauses_more front f args k no_term lt)
          (Tells-trans t now new c.args.log.now c.places.log c.state_single.new.log c.args.steps.now.items c.places.steps.items c.state_single.new.steps.items told (clause ∷ []) h.tells one);
    }

pub returns-clause-tells : goal.returns-clause-tells
returns-clause-tells c =
    let t = c.args.table.now in
    let args = arguments_of (term_at t c.args.id) in
    let f : Term → Clause = λ u. signed_term c.args.positive u ∷ [] in
    let front = term_at t c.args.front in
    let all : take c.places.place args ≡ args = take_all c.places.place args (omega (arith, c.places-test.false, c.argument_count-count.ensures)) in
    Tells-same t c.places.table c.args.log.now c.places.log c.args.steps.now.items c.places.steps.items (before front (map f (take c.places.place args))) (before front (map f args)) (ap (λ (ts : List Term). before front (map f ts)) all) c.places.invariant.tells
