-- One rule after the other.
use Rattle.std.proofs.Common.{◌≡◌, true, false, ◌+◌, ◌++◌, List, [], length, map, take, get_or, ap, sym, ◌∙◌, subst, arith}
use Rattle.std.proofs.lemmas.List.{take_all}
use Rattle.spec_sorts.specs.Terms.{Truth, Term, sort_of, all_same}
use Rattle.spec_sorts.specs.Literals.{Clause}
use Rattle.spec_sorts.specs.Subsets.{arguments_of}
use Rattle.spec_proofs.specs.declared.Rule.TheVariants as rules
use Rattle.spec_rules.specs.Schemes.{clauses_by}
use Rattle.spec_derivations.specs.Base.{clauses_of}
use Rattle.term_core.specs.Tables.{term_at, shape_of}
use Rattle.term_core.proofs.TermsExtend.{term_at-kept}
use Rattle.spec_proofs.specs.declared.Rule.{Rule}
use Rattle.rule_bool.specs.Schemes.{HasPlaces}
use Rattle.term_clauses.specs.Stating.{listed_steps, Tells, head_of, scheme_by, IsRuleOf, clauses_in}
use Rattle.term_clauses.proofs.Growing.{Grows-self, Grows-trans, Tells-none, Tells-trans, Tells-same}
use Rattle.term_clauses.proofs.Parts.{JoinsFormulas-kept}
use Rattle.term_clauses.proofs.Formulas.{arguments_sorts, no_clauses, rule_at, places_at, all_clauses, rules_more}
use Rattle.term_clauses.proofs.statements.state_term.Goals as goal

-- what no number of rules means
abbrev no_rule : Rule
no_rule = rules.Or

pub returns-then-not-are_formulas-clause-grows : goal.returns-then-not-are_formulas-clause-grows
returns-then-not-are_formulas-clause-grows c = Grows-self [] c.args.table.now c.args.log.now c.requires.log

pub returns-then-not-are_formulas-clause-tells : goal.returns-then-not-are_formulas-clause-tells
returns-then-not-are_formulas-clause-tells c =
    let t = c.args.table.now in
    let term = term_at t c.args.id in
    let s = shape_of c.node-node.result.now in
    let other : all_same Truth (map sort_of (arguments_of term)) ≡ false = arguments_sorts t s term c.node-node.ensures.means false (rw c.as_slice.ensures at c.if-not-are_formulas.ensures) in
    Tells-same t t c.args.log.now c.args.log.now c.args.steps.now.items c.args.steps.now.items [] (clauses_of term) (sym (no_clauses term other)) (Tells-none t c.args.log.now c.args.steps.now.items)

pub state_scheme-requires-clause-there : goal.state_scheme-requires-clause-there
state_scheme-requires-clause-there c =
    let t = c.args.table.now in
    let term = term_at t c.args.id in
    let s = shape_of c.node-node.result.now in
    let g = c.rules.invariant.grows in
    let all : all_same Truth (map sort_of (arguments_of term)) ≡ true = arguments_sorts t s term c.node-node.ensures.means true (rw c.as_slice.ensures at c.if-not-are_formulas.ensures) in
    JoinsFormulas-kept t c.rules.table (record { terms = g.table; declared = g.declared }) c.args.id (record { there = c.requires.there; sorted = c.requires.sorted; arguments = all })

pub rules-init : goal.rules-init
rules-init c = record {
  grows = Grows-self [] c.args.table.now c.args.log.now c.requires.log;
  tells = Tells-none c.args.table.now c.args.log.now c.args.steps.now.items;
}

pub state_scheme-requires-clause-rule : goal.state_scheme-requires-clause-rule
state_scheme-requires-clause-rule c =
    let t = c.args.table.now in
    let list = c.rules_of-list.result.now in
    let kept = term_at-kept t c.rules.table c.rules.invariant.grows.table c.args.id c.requires.there in
    subst (λ (u : Term). IsRuleOf (head_of u) (get_or list c.rules.rule-index no_rule)) (sym kept)
    (rule_at t (shape_of c.node-node.result.now) (term_at t c.args.id) c.node-node.ensures.means list c.rules_of-list.ensures c.rules.rule-index no_rule c.rules-test.true)

pub state_scheme-requires-clause-places : goal.state_scheme-requires-clause-places
state_scheme-requires-clause-places c =
    let t = c.args.table.now in
    let list = c.rules_of-list.result.now in
    let kept = term_at-kept t c.rules.table c.rules.invariant.grows.table c.args.id c.requires.there in
    subst (λ (u : Term). HasPlaces (length (arguments_of u)) (scheme_by (get_or list c.rules.rule-index no_rule)).rest) (sym kept)
    (places_at t (shape_of c.node-node.result.now) (term_at t c.args.id) c.node-node.ensures.means list c.rules_of-list.ensures c.node-node.ensures.placed c.rules.rule-index no_rule c.rules-test.true)

pub returns-in_err-state_scheme-clause-grows : goal.returns-in_err-state_scheme-clause-grows
returns-in_err-state_scheme-clause-grows c = Grows-trans [] c.args.table.now c.rules.table c.state_scheme.new.table c.args.log.now c.rules.log c.state_scheme.new.log c.rules.invariant.grows c.state_scheme.ensures.grows

pub rules-preserved : goal.rules-preserved
rules-preserved c =
    let t = c.args.table.now in
    let now = c.rules.table in
    let new = c.state_scheme.new.table in
    let h = c.rules.invariant in
    let k = c.rules.rule-index in
    let list = c.rules_of-list.result.now in
    let rule = get_or list k no_rule in
    let term = term_at t c.args.id in
    let f : Term → List Clause = λ u. clauses_by (scheme_by rule) u in
    let told = clauses_in term (take k list) in
    let same : f (term_at now c.args.id) ≡ f term = ap f (term_at-kept t now h.grows.table c.args.id c.requires.there) in
    let one : Tells (listed_steps now c.rules.log c.rules.steps.items) (listed_steps new c.state_scheme.new.log c.state_scheme.new.steps.items) (f term) = Tells-same now new c.rules.log c.state_scheme.new.log c.rules.steps.items c.state_scheme.new.steps.items (f (term_at now c.args.id)) (f term) same c.in_ok-state_scheme.ensures.tells in
    record {
      grows = Grows-trans [] t now new c.args.log.now c.rules.log c.state_scheme.new.log h.grows c.state_scheme.ensures.grows;
      tells = Tells-same t new c.args.log.now c.state_scheme.new.log c.args.steps.now.items c.state_scheme.new.steps.items (told ++ f term) (clauses_in term (take (k + 1) list)) (rules_more term list k no_rule c.rules-test.true)
          (Tells-trans t now new c.args.log.now c.rules.log c.state_scheme.new.log c.args.steps.now.items c.rules.steps.items c.state_scheme.new.steps.items told (f term) h.tells one);
    }

pub returns-clause-tells : goal.returns-clause-tells
returns-clause-tells c =
    let t = c.args.table.now in
    let term = term_at t c.args.id in
    let list = c.rules_of-list.result.now in
    let front : take c.rules.rule-index list ≡ list = take_all c.rules.rule-index list (omega (arith, c.rules-test.false)) in
    let whole = ap (clauses_in term) front ∙ all_clauses t (shape_of c.node-node.result.now) term c.node-node.ensures.means list c.rules_of-list.ensures in
    Tells-same t c.rules.table c.args.log.now c.rules.log c.args.steps.now.items c.rules.steps.items (clauses_in term (take c.rules.rule-index list)) (clauses_of term) whole c.rules.invariant.tells
