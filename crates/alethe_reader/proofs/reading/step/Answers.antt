-- A step read part by part.
use Rattle.std.proofs.Common.{sym, ◌∙◌}
use Rattle.spec_checking.specs.Commands.{stepped}
use Rattle.alethe_reader.specs.Shapes.{step_parts}
use Rattle.alethe_reader.specs.Holding.{clauses_numbered}
use Rattle.alethe_reader.specs.Parts.{known_entries}
use Rattle.alethe_reader.proofs.PremiseLists.{premises_by, fresh_by}
use Rattle.alethe_reader.proofs.ReadCommands.{stopped, step_of, step_no_name, step_no_clause, step_no_rule, step_no_premises, step_is}
use Rattle.alethe_reader.proofs.reading.step.Goals as goal

pub returns-in_err-name : goal.returns-in_err-name
returns-in_err-name c k is =
    let p = step_parts c.args.parts in
    stopped k _ _ _ _ _ c.from_residual.ensures.1 c.in_err-name.ensures.gives
    (λ f e. step_no_name k c.args.at p f (fresh_by k (known_entries c.args.state.now) (sym is.entries) p.name ∙ e))

pub returns-in_err-clause : goal.returns-in_err-clause
returns-in_err-clause c k is =
    let p = step_parts c.args.parts in
    let named = fresh_by k (known_entries c.args.state.now) (sym is.entries) p.name ∙ c.in_ok-name.ensures.gives in
    stopped k _ _ _ _ _ c.from_residual-in_err-clause.ensures.1 (c.in_err-clause.ensures.reads k is) (step_no_clause k c.args.at p _ named)

pub returns-in_err-rule : goal.returns-in_err-rule
returns-in_err-rule c k is =
    let p = step_parts c.args.parts in
    let named = fresh_by k (known_entries c.args.state.now) (sym is.entries) p.name ∙ c.in_ok-name.ensures.gives in
    let r = c.in_ok-clause.ensures.reads k is in
    stopped k _ _ _ _ _ c.from_residual-in_err-rule.ensures.1 c.in_err-rule.ensures (step_no_rule k c.args.at p _ named r.readings r.read)

pub returns-in_err-premises : goal.returns-in_err-premises
returns-in_err-premises c k is =
    let p = step_parts c.args.parts in
    let named = fresh_by k (known_entries c.args.state.now) (sym is.entries) p.name ∙ c.in_ok-name.ensures.gives in
    let r = c.in_ok-clause.ensures.reads k is in
    stopped k _ _ _ _ _ c.from_residual-in_err-premises.ensures.1 c.in_err-premises.ensures.gives
    (λ f e. step_no_premises k c.args.at p _ named r.readings r.read _ c.in_ok-rule.ensures f (premises_by k (known_entries c.literals.new.state) (sym r.known.entries) p.premises ∙ e))

pub returns : goal.returns
returns c k is =
    let p = step_parts c.args.parts in
    let h = c.literals.new.state in
    let n = c.in_ok-name.name.now in
    let rule = c.in_ok-rule.rule in
    let qs = clauses_numbered h c.in_ok-premises.premises.items in
    let named = fresh_by k (known_entries c.args.state.now) (sym is.entries) p.name ∙ c.in_ok-name.ensures.gives in
    let r = c.in_ok-clause.ensures.reads k is in
    record {
      command = step_of k c.args.at p n r.readings rule qs;
      is = step_is k c.args.at p n named r.readings r.read rule c.in_ok-rule.ensures qs (premises_by k (known_entries h) (sym r.known.entries) p.premises ∙ c.in_ok-premises.ensures.gives);
      states = λ i. stepped (record { at = c.args.at; name = n; clause = r.terms i; rule = rule; premises = qs; arguments = p.arguments });
      known = r.known;
      ready = record { new = rw c.in_ok-clause.ensures.names c.in_ok-name.ensures.new; clause = r.there; premises = c.in_ok-premises.ensures.there; coefficients = c.in_ok-coefficients.ensures };
    }
