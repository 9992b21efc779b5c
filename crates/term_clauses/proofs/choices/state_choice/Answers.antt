-- The negation of the condition is put, and then one clause stated after the other.
use Rattle.std.proofs.Common.{◌≡◌, false, [], ◌∷◌, sym, ap, ◌∙◌, subst}
use Rattle.std.proofs.lemmas.Result.{on_ok_weaker}
use Rattle.spec_text.specs.Trees.{none}
use Rattle.spec_sorts.specs.Terms.{Term, negated}
use Rattle.spec_sorts.specs.Literals.{Clause}
use Rattle.spec_proofs.specs.declared.Rule.TheVariants.{IteThen}
use Rattle.spec_rules.specs.Rules.{IsRight}
use Rattle.spec_derivations.specs.Base.{choice_clauses}
use Rattle.term_core.specs.Tables.{term_at}
use Rattle.term_core.proofs.TermsExtend.{term_at-kept}
use Rattle.proof_log.specs.Logs.{IsLogOf}
use Rattle.term_clauses.specs.Stating.{Widens}
use Rattle.term_clauses.specs.Choices.{equality_at, IsIteTerm}
use Rattle.term_clauses.proofs.Parts.{signed_in}
use Rattle.term_clauses.proofs.Arguments.{Widens-trans}
use Rattle.term_clauses.proofs.Choosing.{clauses_are, then_right, else_right, equality_kept, choice_kept}
use Rattle.term_clauses.proofs.Growing.{Grows-self, Grows-wider, Grows-trans, Grows-made, Tells-made, Tells-trans, Tells-same}
use Rattle.term_clauses.proofs.choices.state_choice.Goals as goal
use Rattle.term_clauses.proofs.choices.state_choice.Goals.{After-signed}

-- the log is in the wider table
still : (c : After-signed) → IsLogOf c.signed.new.table c.args.log.now
still c = c.logs_hold_in_grown_tables.ensures.right c.args.table.now c.signed.new.table c.args.log.now c.requires.log c.signed.ensures.wider.terms

-- the choice is one there
there : (c : After-signed) → IsIteTerm c.signed.new.table c.args.id c.in-Some.choice
there c = choice_kept c.args.table.now c.signed.new.table c.signed.ensures.wider c.args.id c.in-Some.choice c.in-Some.ensures

pub returns-in_default-clause-grows : goal.returns-in_default-clause-grows
returns-in_default-clause-grows c = Grows-self [] c.args.table.now c.args.log.now c.requires.log

pub returns-in_err-denied-clause-grows : goal.returns-in_err-denied-clause-grows
returns-in_err-denied-clause-grows c = Grows-wider [] c.args.table.now c.signed.new.table c.args.log.now c.signed.ensures.wider (still (goal.at.returns-in_err-denied-clause-grows c).After-signed)

pub state_branch-requires-clause-front : goal.state_branch-requires-clause-front
state_branch-requires-clause-front c =
    let means = c.in_ok-denied.ensures.means in
    signed_in c.args.table.now c.signed.new.table c.signed.ensures.wider false c.in-Some.choice.condition c.in_ok-denied.denied c.in-Some.ensures.condition means.0 means.1

pub state_branch-requires-clause-log : goal.state_branch-requires-clause-log
state_branch-requires-clause-log c = still (goal.at.state_branch-requires-clause-log c).After-signed

pub state_branch-requires-clause-right : goal.state_branch-requires-clause-right
state_branch-requires-clause-right c =
    let t = c.args.table.now in
    let u = c.signed.new.table in
    let x = c.in-Some.choice in
    let front : term_at u c.in_ok-denied.denied ≡ negated (term_at u x.condition) =
    c.in_ok-denied.ensures.means.1 ∙ ap negated (sym (term_at-kept t u c.signed.ensures.wider.terms x.condition c.in-Some.ensures.condition.0)) in
    subst (λ (w : Term). IsRight IteThen [] none (w ∷ equality_at u c.args.id x.first ∷ [])) (sym front)
    (then_right u c.args.id x (there (goal.at.state_branch-requires-clause-right c).After-signed))

pub state_branch-requires-2-clause-right : goal.state_branch-requires-2-clause-right
state_branch-requires-2-clause-right c =
    let g = c.state_branch.ensures.grows in
    else_right c.state_branch.new.table c.args.id c.in-Some.choice
    (choice_kept c.signed.new.table c.state_branch.new.table (record { terms = g.table; declared = g.declared }) c.args.id c.in-Some.choice (there (goal.at.state_branch-requires-2-clause-right c).After-signed))

pub returns-clause-grows : goal.returns-clause-grows
returns-clause-grows c =
    let t = c.args.table.now in
    let u = c.signed.new.table in
    let v = c.state_branch.new.table in
    let w = c.state_branch-2.new.table in
    let log = c.args.log.now in
    let last = c.state_branch-2.new.log in
    Grows-made t u w c.signed.ensures.wider log last c.requires.log (still (goal.at.returns-clause-grows c).After-signed)
    (Grows-trans [] u v w log c.state_branch.new.log last c.state_branch.ensures.grows c.state_branch-2.ensures.grows)

pub returns-clause-tells : goal.returns-clause-tells
returns-clause-tells c =
    let t = c.args.table.now in
    let u = c.signed.new.table in
    let v = c.state_branch.new.table in
    let w = c.state_branch-2.new.table in
    let a = c.args.log.now in
    let b = c.state_branch.new.log in
    let d = c.state_branch-2.new.log in
    let id = c.args.id in
    let x = c.in-Some.choice in
    let is = c.in-Some.ensures in
    let wider = c.signed.ensures.wider in
    let g = c.state_branch.ensures.grows in
    let widest : Widens t v = Widens-trans t u v wider (record { terms = g.table; declared = g.declared }) in
    let one : Clause = term_at u c.in_ok-denied.denied ∷ equality_at u id x.first ∷ [] in
    let two : Clause = term_at v x.condition ∷ equality_at v id x.second ∷ [] in
    let first : one ≡ negated (term_at t x.condition) ∷ equality_at t id x.first ∷ [] =
    λ i. c.in_ok-denied.ensures.means.1 i ∷ equality_kept t u wider id x.first is.first i ∷ [] in
    let second : two ≡ term_at t x.condition ∷ equality_at t id x.second ∷ [] =
    λ i. term_at-kept t v widest.terms x.condition is.condition.0 i ∷ equality_kept t v widest id x.second is.second i ∷ [] in
    let same : one ∷ two ∷ [] ≡ choice_clauses (term_at t id) = (λ i. first i ∷ second i ∷ []) ∙ sym (clauses_are t id x is) in
    let start = c.args.steps.now.items in
    let some = c.state_branch.new.steps.items in
    let all = c.state_branch-2.new.steps.items in
    on_ok_weaker c.state_branch-2.result
    (λ tells. Tells-same t w a d start all (one ∷ two ∷ []) (choice_clauses (term_at t id)) same
    (Tells-made t u w wider a d c.requires.log (still (goal.at.returns-clause-tells c).After-signed) start all (one ∷ two ∷ [])
    (Tells-trans u v w a b d start some all (one ∷ []) (two ∷ []) c.in_ok-state_branch.ensures.tells tells)))
    c.state_branch-2.ensures.tells
