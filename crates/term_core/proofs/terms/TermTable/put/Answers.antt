-- A node's term is there by its number, and the rest stays.
use Rattle.std.proofs.Common.{◌∷◌, ◌++◌, [], ap, ◌∙◌}
use Rattle.term_core.specs.Tables.{table_of}
use Rattle.term_core.proofs.NodesPut.{put_new}
use Rattle.term_core.proofs.TablePut.{same_extends, put_there, put_kept, put_once, put_known, put_added, put_facts}
use Rattle.term_core.proofs.terms.TermTable.put.Goals as goal

pub returns-in_err-reserve-clause-kept : goal.returns-in_err-reserve-clause-kept
returns-in_err-reserve-clause-kept c = same_extends c.args.self.now _ c.self.view_is

pub returns-in_err-at-clause-kept : goal.returns-in_err-at-clause-kept
returns-in_err-at-clause-kept c = same_extends c.args.self.now _ (ap (table_of c.self.inside.symbols) c.in_err-at.ensures.err ∙ c.self.view_is)

pub returns-then-not-is_new-clause-there : goal.returns-then-not-is_new-clause-there
returns-then-not-is_new-clause-there c = put_there c.self.inside.symbols c.self.inside.nodes.keys c.self.inside.facts.items c.args.self.now c.self.invariant c.self.view_is c.args.node c.requires c.in_ok-at.at c.insert_full.new.self.keys c.in_ok-at.ensures.keys c.in_ok-at.ensures.stored

pub returns-then-not-is_new-clause-kept : goal.returns-then-not-is_new-clause-kept
returns-then-not-is_new-clause-kept c = put_kept c.self.inside.symbols c.self.inside.nodes.keys c.self.inside.facts.items c.args.self.now c.self.invariant c.self.view_is c.args.node c.requires c.in_ok-at.at c.insert_full.new.self.keys c.in_ok-at.ensures.keys c.in_ok-at.ensures.stored

pub invariant_of-self-2 : goal.invariant_of-self-2
invariant_of-self-2 c =
    put_facts c.self.inside.symbols c.self.inside.nodes.keys c.self.inside.facts.items c.args.self.now c.self.invariant c.self.view_is c.args.node c.requires c.in_ok-at.at c.insert_full.new.self.keys c.in_ok-at.ensures.keys c.in_ok-at.ensures.stored c.push_reserved.new.self.items c.facts_of-facts.result
    (put_new c.self.inside.nodes.keys c.insert_full.new.self.keys c.args.node c.in_ok-at.is_new c.in_ok-at.ensures.keys c.in_ok-at.ensures.added c.if-not-is_new.false)
    (c.push_reserved.ensures.items ∙ ap (λ fs. fs ++ c.facts_of-facts.result ∷ []) c.in_ok-reserve.ensures.items) c.facts_of-facts.ensures.facts c.facts_of-facts.ensures.literal

pub returns-clause-there : goal.returns-clause-there
returns-clause-there c = put_there c.self.inside.symbols c.self.inside.nodes.keys c.self.inside.facts.items c.args.self.now c.self.invariant c.self.view_is c.args.node c.requires c.in_ok-at.at c.insert_full.new.self.keys c.in_ok-at.ensures.keys c.in_ok-at.ensures.stored

pub returns-clause-kept : goal.returns-clause-kept
returns-clause-kept c = put_kept c.self.inside.symbols c.self.inside.nodes.keys c.self.inside.facts.items c.args.self.now c.self.invariant c.self.view_is c.args.node c.requires c.in_ok-at.at c.insert_full.new.self.keys c.in_ok-at.ensures.keys c.in_ok-at.ensures.stored

pub returns-clause-once : goal.returns-clause-once
returns-clause-once c = put_once c.self.inside.symbols c.self.inside.nodes.keys c.self.inside.facts.items c.args.self.now c.self.invariant c.self.view_is c.args.node c.requires c.in_ok-at.at c.insert_full.new.self.keys c.in_ok-at.ensures.keys c.in_ok-at.ensures.stored

pub returns-clause-known : goal.returns-clause-known
returns-clause-known c = put_known c.self.inside.symbols c.self.inside.nodes.keys c.self.inside.facts.items c.args.self.now c.self.invariant c.self.view_is c.args.node c.requires c.in_ok-at.at c.insert_full.new.self.keys c.in_ok-at.ensures.keys c.in_ok-at.ensures.stored

pub returns-clause-added : goal.returns-clause-added
returns-clause-added c = put_added c.self.inside.symbols c.self.inside.nodes.keys c.self.inside.facts.items c.args.self.now c.self.invariant c.self.view_is c.args.node c.requires c.in_ok-at.at c.insert_full.new.self.keys c.in_ok-at.ensures.keys c.in_ok-at.ensures.stored
