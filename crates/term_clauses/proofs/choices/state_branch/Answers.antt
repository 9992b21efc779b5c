-- The equality is put, which may make the table wider, and then the clause is stated.
use Rattle.std.proofs.Common.{◌≡◌, [], ◌∷◌, sym, ap, ap₂, ◌∙◌, subst}
use Rattle.std.proofs.lemmas.List.Elements.{All-nil, All-cons}
use Rattle.std.proofs.lemmas.Result.{on_ok_weaker}
use Rattle.spec_text.specs.Trees.{none}
use Rattle.spec_sorts.specs.Terms.{Term}
use Rattle.spec_sorts.specs.Literals.{Clause}
use Rattle.spec_rules.specs.Rules.{IsRight}
use Rattle.term_core.specs.Tables.{term_at, clause_at}
use Rattle.term_core.proofs.TermsExtend.{term_at-kept}
use Rattle.proof_log.specs.Logs.{IsFormulaIn, AreFormulasIn, IsLogOf}
use Rattle.term_clauses.specs.Choices.{equality_at}
use Rattle.term_clauses.proofs.Parts.{formula_kept}
use Rattle.term_clauses.proofs.Choosing.{equality_in}
use Rattle.term_clauses.proofs.Growing.{Grows-wider, Grows-made, Tells-made, Tells-same}
use Rattle.term_clauses.proofs.choices.state_branch.Goals as goal
use Rattle.term_clauses.proofs.choices.state_branch.Goals.{After-equality, In_ok-clause}

-- the log is in the wider table
still : (c : After-equality) → IsLogOf c.equality.new.table c.args.log.now
still c = c.logs_hold_in_grown_tables.ensures.right c.args.table.now c.equality.new.table c.args.log.now c.requires.log c.equality.ensures.wider.terms

pub returns-in_err-equal-clause-grows : goal.returns-in_err-equal-clause-grows
returns-in_err-equal-clause-grows c = Grows-wider [] c.args.table.now c.equality.new.table c.args.log.now c.equality.ensures.wider (still (goal.at.returns-in_err-equal-clause-grows c).After-equality)

pub returns-in_err-clause-clause-grows : goal.returns-in_err-clause-clause-grows
returns-in_err-clause-clause-grows c = Grows-wider [] c.args.table.now c.equality.new.table c.args.log.now c.equality.ensures.wider (still (goal.at.returns-in_err-clause-clause-grows c).After-equality)

pub state-requires-clause-log : goal.state-requires-clause-log
state-requires-clause-log c = still (goal.at.state-requires-clause-log c).After-equality

-- the clause is the formula and the equality
clause_is : (c : In_ok-clause) → clause_at c.equality.new.table c.in_ok-clause.clause.items ≡ term_at c.args.table.now c.args.front ∷ equality_at c.args.table.now c.args.id c.args.branch ∷ []
clause_is c =
    let t = c.args.table.now in
    let u = c.equality.new.table in
    ap (clause_at u) c.in_ok-clause.ensures.items
    ∙ ap₂ (λ (x y : Term). x ∷ y ∷ []) (term_at-kept t u c.equality.ensures.wider.terms c.args.front c.requires.front.0) c.in_ok-equal.ensures.means.1

pub state-requires-clause-clause : goal.state-requires-clause-clause
state-requires-clause-clause c =
    let t = c.args.table.now in
    let u = c.equality.new.table in
    let wider = c.equality.ensures.wider in
    let means = c.in_ok-equal.ensures.means in
    let equal = c.in_ok-equal.equal in
    let inside : IsFormulaIn u equal = equality_in t u wider c.args.id c.args.branch equal c.requires.sides means.0 means.1 in
    subst (AreFormulasIn u) (sym c.in_ok-clause.ensures.items)
    (All-cons (IsFormulaIn u) c.args.front (equal ∷ []) (formula_kept t u wider c.args.front c.requires.front) (All-cons (IsFormulaIn u) equal [] inside (All-nil (IsFormulaIn u))))

pub state-requires-clause-right : goal.state-requires-clause-right
state-requires-clause-right c = subst (λ (ls : Clause). IsRight c.args.rule [] none ls) (sym (clause_is (goal.at.state-requires-clause-right c).In_ok-clause)) c.requires.right

pub returns-clause-grows : goal.returns-clause-grows
returns-clause-grows c =
    let t = c.args.table.now in
    let u = c.equality.new.table in
    Grows-made t u u c.equality.ensures.wider c.args.log.now c.state.new.log c.requires.log (still (goal.at.returns-clause-grows c).After-equality) c.state.ensures.grows

pub returns-clause-tells : goal.returns-clause-tells
returns-clause-tells c =
    let t = c.args.table.now in
    let u = c.equality.new.table in
    let old = c.args.log.now in
    let new = c.state.new.log in
    let steps = c.args.steps.now.items in
    let all = c.state.new.steps.items in
    let clause = term_at t c.args.front ∷ equality_at t c.args.id c.args.branch ∷ [] in
    let same = clause_is (goal.at.returns-clause-tells c).In_ok-clause in
    on_ok_weaker c.state.result (λ tells. Tells-made t u u c.equality.ensures.wider old new c.requires.log (still (goal.at.returns-clause-tells c).After-equality) steps all (clause ∷ []) (Tells-same u u old new steps all (clause_at u c.in_ok-clause.clause.items ∷ []) (clause ∷ []) (ap (λ (ls : Clause). ls ∷ []) same) tells)) c.state.ensures.tells
