-- The term in front, as it is or negated, and the rests of the rule's scheme.
use Rattle.std.proofs.Common.{◌≡◌, true, [], Contains, sym, ap, ◌∙◌, subst}
use Rattle.std.specs.Prelude.{length}
use Rattle.std.proofs.lemmas.Result.{on_ok_weaker}
use Rattle.spec_sorts.specs.Terms.{Head, Term}
use Rattle.spec_sorts.specs.Subsets.{arguments_of}
use Rattle.spec_rules.specs.Schemes.{Scheme, states, kind_of, is_formula_of, clauses_by, rests_of}
use Rattle.term_core.specs.Tables.{term_at}
use Rattle.term_core.proofs.TermsExtend.{term_at-kept}
use Rattle.rule_bool.specs.Schemes.{states_nothing, scheme_seen, HasPlaces}
use Rattle.term_clauses.specs.Stating.{head_of, scheme_by, before}
use Rattle.term_clauses.proofs.Growing.{Grows-wider, Tells-made, Tells-same}
use Rattle.proof_log.specs.Logs.{IsFormulaIn}
use Rattle.term_clauses.proofs.Parts.{joined_formula, comes_before, JoinsFormulas-kept, signed_in}
use Rattle.term_clauses.proofs.Formulas.{is_formula, given, right, same_scheme}
use Rattle.term_clauses.proofs.statements.state_scheme.Goals as goal
use Rattle.term_clauses.proofs.statements.state_scheme.Goals.{In-Some}

-- the term is a formula of the scheme's head
formula : (c : In-Some) (s : Scheme) → kind_of c.args.rule ≡ states s → is_formula_of s.head (term_at c.args.table.now c.args.id) ≡ true
formula c s kind =
    let t = c.args.table.now in
    let term = term_at t c.args.id in
    let head : s.head ≡ head_of term = ap (λ (x : Scheme). x.head) (sym (same_scheme c.args.rule s kind)) ∙ c.requires.rule.1 in
    subst (λ (h : Head). is_formula_of h term ≡ true) (sym head) (is_formula t.symbols term c.requires.there.sorted c.requires.there.arguments)

-- and so it is one itself
own : (c : In-Some) → IsFormulaIn c.args.table.now c.args.id
own c =
    let t = c.args.table.now in
    let s = scheme_seen t c.in-Some.scheme in
    let head : s.head ≡ head_of (term_at t c.args.id) = ap (λ (x : Scheme). x.head) (sym (same_scheme c.args.rule s (c.in-Some.ensures.same t))) ∙ c.requires.rule.1 in
    joined_formula t c.args.id c.in-Some.scheme.head c.in-Some.scheme.rest c.in-Some.ensures.form head c.requires.there

pub signed-requires : goal.signed-requires
signed-requires c = own (goal.at.signed-requires c).In-Some

pub unreachable-requires : goal.unreachable-requires
unreachable-requires c = subst states_nothing c.requires.rule.0 c.in_default.ensures

pub returns-in_err-front-clause-grows : goal.returns-in_err-front-clause-grows
returns-in_err-front-clause-grows c =
    let wider = c.signed.ensures.wider in
    Grows-wider [] c.args.table.now c.signed.new.table c.args.log.now wider (c.logs_hold_in_grown_tables.ensures.right c.args.table.now c.signed.new.table c.args.log.now c.requires.log wider.terms)

pub state_rests-requires-clause-log : goal.state_rests-requires-clause-log
state_rests-requires-clause-log c = c.logs_hold_in_grown_tables.ensures.right c.args.table.now c.signed.new.table c.args.log.now c.requires.log c.signed.ensures.wider.terms

pub state_rests-requires-clause-there : goal.state_rests-requires-clause-there
state_rests-requires-clause-there c =
    let t = c.args.table.now in
    let u = c.signed.new.table in
    let made = c.in_ok-front.ensures in
    comes_before u c.args.id c.in_ok-front.front (JoinsFormulas-kept t u made.wider c.args.id c.requires.there)
    (signed_in t u made.wider c.in-Some.scheme.positive c.args.id c.in_ok-front.front (own (goal.at.state_rests-requires-clause-there c).In-Some) made.means.0 made.means.1)

pub state_rests-requires-clause-places : goal.state_rests-requires-clause-places
state_rests-requires-clause-places c =
    let t = c.args.table.now in
    let s = scheme_seen t c.in-Some.scheme in
    let kept : term_at c.signed.new.table c.args.id ≡ term_at t c.args.id = term_at-kept t c.signed.new.table c.signed.ensures.wider.terms c.args.id c.requires.there.there in
    subst (λ (w : Term). HasPlaces (length (arguments_of w)) s.rest) (sym kept)
    (subst (λ (x : Scheme). HasPlaces (length (arguments_of (term_at t c.args.id))) x.rest) (same_scheme c.args.rule s (c.in-Some.ensures.same t)) c.requires.places)

pub state_rests-requires-clause-right : goal.state_rests-requires-clause-right
state_rests-requires-clause-right c ls ls_in =
    let t = c.args.table.now in
    let u = c.signed.new.table in
    let s = scheme_seen t c.in-Some.scheme in
    let kind : kind_of c.args.rule ≡ states s = c.in-Some.ensures.same t in
    let term = term_at t c.args.id in
    let made = c.in_ok-front.ensures in
    let kept : term_at u c.args.id ≡ term = term_at-kept t u made.wider.terms c.args.id c.requires.there.there in
    right s term (term_at u c.in_ok-front.front) (formula (goal.at.state_rests-requires-clause-right c).In-Some s kind) (sym made.means.1) c.args.rule kind ls
    (subst (λ (w : Term). Contains (rests_of s.rest (arguments_of w)) ls) kept ls_in)

pub returns-clause-tells : goal.returns-clause-tells
returns-clause-tells c =
    let t = c.args.table.now in
    let u = c.signed.new.table in
    let v = c.state_rests.new.table in
    let old = c.args.log.now in
    let new = c.state_rests.new.log in
    let steps = c.args.steps.now.items in
    let all = c.state_rests.new.steps.items in
    let s = scheme_seen t c.in-Some.scheme in
    let kind : kind_of c.args.rule ≡ states s = c.in-Some.ensures.same t in
    let term = term_at t c.args.id in
    let made = c.in_ok-front.ensures in
    let front = term_at u c.in_ok-front.front in
    let clauses = clauses_by (scheme_by c.args.rule) term in
    let told = before front (rests_of s.rest (arguments_of (term_at u c.args.id))) in
    let same : told ≡ clauses =
    ap (λ (w : Term). before front (rests_of s.rest (arguments_of w))) (term_at-kept t u made.wider.terms c.args.id c.requires.there.there)
    ∙ given s term front (formula (goal.at.returns-clause-tells c).In-Some s kind) (sym made.means.1)
    ∙ ap (λ (x : Scheme). clauses_by x term) (sym (same_scheme c.args.rule s kind)) in
    let still = c.logs_hold_in_grown_tables.ensures.right t u old c.requires.log made.wider.terms in
    on_ok_weaker c.state_rests.result (λ tells. Tells-made t u v made.wider old new c.requires.log still steps all clauses (Tells-same u v old new steps all told clauses same tells)) c.state_rests.ensures.tells
