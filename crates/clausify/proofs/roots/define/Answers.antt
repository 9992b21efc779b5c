-- The clauses of its rules come first, and then those of a choice.
use Rattle.std.proofs.Common.{[], ap}
use Rattle.std.proofs.lemmas.Result.{on_ok_weaker}
use Rattle.spec_derivations.specs.Base.{clauses_of, choice_clauses}
use Rattle.term_core.specs.Tables.{term_at}
use Rattle.term_core.proofs.TermsExtend.{term_at-kept}
use Rattle.term_clauses.proofs.Choosing.{term_kept}
use Rattle.term_clauses.proofs.Growing.{Grows-trans, Tells-trans, Tells-same}
use Rattle.clausify.proofs.roots.define.Goals as goal

pub state_choice-requires-clause-there : goal.state_choice-requires-clause-there
state_choice-requires-clause-there c =
    let g = c.state_term.ensures.grows in
    term_kept c.args.table.now c.state_term.new.table (record { terms = g.table; declared = g.declared }) c.args.id c.requires.there

pub returns-clause-grows : goal.returns-clause-grows
returns-clause-grows c = Grows-trans [] c.args.table.now c.state_term.new.table c.state_choice.new.table c.args.log.now c.state_term.new.log c.state_choice.new.log c.state_term.ensures.grows c.state_choice.ensures.grows

pub returns-clause-tells : goal.returns-clause-tells
returns-clause-tells c =
    let t = c.args.table.now in
    let u = c.state_term.new.table in
    let v = c.state_choice.new.table in
    let a = c.args.log.now in
    let b = c.state_term.new.log in
    let d = c.state_choice.new.log in
    let id = c.args.id in
    let start = c.args.steps.now.items in
    let some = c.state_term.new.steps.items in
    let all = c.state_choice.new.steps.items in
    let same = ap choice_clauses (term_at-kept t u c.state_term.ensures.grows.table id c.requires.there.0) in
    on_ok_weaker c.state_choice.result
    (λ tells. Tells-trans t u v a b d start some all (clauses_of (term_at t id)) (choice_clauses (term_at t id)) c.in_ok-state_term.ensures.tells
    (Tells-same u v b d some all (choice_clauses (term_at u id)) (choice_clauses (term_at t id)) same tells))
    c.state_choice.ensures.tells
