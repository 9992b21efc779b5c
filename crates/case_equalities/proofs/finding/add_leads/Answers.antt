-- Pair by pair.
use Rattle.case_equalities.proofs.MarkedLeads.{adds_none, adds_both}
use Rattle.case_equalities.proofs.finding.add_leads.Goals as goal

pub returns-then-not-are_linking : goal.returns-then-not-are_linking
returns-then-not-are_linking c = adds_none c.args.table.now c.args.marks.now c.args.disjunction c.args.leads.now.items

pub pairs-init : goal.pairs-init
pairs-init c = adds_none c.args.table.now c.args.marks.now c.args.disjunction c.args.leads.now.items

pub pairs-preserved : goal.pairs-preserved
pairs-preserved c =
    adds_both c.args.table.now c.args.marks.now c.args.disjunction c.args.leads.now.items c.pairs.leads.items c.add_lead.new.leads.items
    c.pairs.invariant c.in_ok-add_lead.ensures
