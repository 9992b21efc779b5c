-- What the first look at a clause comes to.
use Rattle.std.proofs.Common.{◌≡◌, ◌≢◌, ◌∙◌, List, [], get_or, Contains, sym, subst}
use Rattle.std.proofs.lemmas.List.{get_or_default}
use Rattle.term_core.specs.declared.ids.Lit.{Lit}
use Rattle.clause_literals.specs.Statuses.{IsFalsified}
use Rattle.clause_store.specs.declared.entry.StoredClause.{StoredClause}
use Rattle.clause_store.specs.declared.pair.Pair.{Pair}
use Rattle.clause_store.specs.Stores.{no_pair}
use Rattle.clause_store.specs.Entries.{clauses_of, bare}
use Rattle.clause_store.specs.Propagating.{Advances}
use Rattle.clause_store.specs.Watching.{IsOpenIn, IsOpenBut, AreFalseBut, Has, NoPrefix, Below}
use Rattle.clause_store.proofs.Adding.{advances_none}
use Rattle.clause_store.proofs.QuietPairs.{goes_none, goes_past, two_differ, fresh_open, fresh_forced, fresh_single, below_safe}
use Rattle.clause_store.proofs.Stored.{entry_there, clause_there, entry_clause, all_known}
use Rattle.clause_store.proofs.Looking.{taken_had, had_in}
use Rattle.clause_store.proofs.Attaching.{repaired_on, two_of, other_differs, pair_kept}
use Rattle.clause_store.proofs.watched.Watched.attach.Goals as goal

pub first_open-requires : goal.first_open-requires
first_open-requires c =
    let s = c.args.self.now in
    let ps = c.requires.watched.pairs_by in
    let lt = entry_there s.entries.items s.pairs.items c.args.n ps c.requires.there in
    let there = clause_there s.entries.items s.pairs.items c.args.n ps c.requires.there in
    let is = entry_clause s.entries.items c.args.n c.index.result.now lt c.index.ensures c.deref.result.now c.deref.ensures.value in
    all_known (clauses_of s.entries.items) c.args.trail.now.vars c.args.n c.deref.result.now c.requires.known there is

pub returns-in_default-clause-goes : goal.returns-in_default-clause-goes
returns-in_default-clause-goes c =
    goes_none _ _ _ _

pub returns-in_default-clause-fresh : goal.returns-in_default-clause-fresh
returns-in_default-clause-fresh c =
    let s = c.args.self.now in
    let ps = c.requires.watched.pairs_by in
    let lt = entry_there s.entries.items s.pairs.items c.args.n ps c.requires.there in
    let there = clause_there s.entries.items s.pairs.items c.args.n ps c.requires.there in
    let is = entry_clause s.entries.items c.args.n c.index.result.now lt c.index.ensures c.deref.result.now c.deref.ensures.value in
    subst (IsFalsified c.args.trail.now.literals) is c.in_default.ensures

pub find_open-requires : goal.find_open-requires
find_open-requires c =
    let s = c.args.self.now in
    let ps = c.requires.watched.pairs_by in
    let lt = entry_there s.entries.items s.pairs.items c.args.n ps c.requires.there in
    let there = clause_there s.entries.items s.pairs.items c.args.n ps c.requires.there in
    let is2 = entry_clause s.entries.items c.args.n c.index-2.result.now lt c.index-2.ensures c.deref-2.result.now c.deref-2.ensures.value in
    all_known (clauses_of s.entries.items) c.args.trail.now.vars c.args.n c.deref-2.result.now c.requires.known there is2

pub watch-requires-clause-differ : goal.watch-requires-clause-differ
watch-requires-clause-differ c =
    let s = c.args.self.now in
    let ps = c.requires.watched.pairs_by in
    let lt = entry_there s.entries.items s.pairs.items c.args.n ps c.requires.there in
    let there = clause_there s.entries.items s.pairs.items c.args.n ps c.requires.there in
    let is = entry_clause s.entries.items c.args.n c.index.result.now lt c.index.ensures c.deref.result.now c.deref.ensures.value in
    let is2 = entry_clause s.entries.items c.args.n c.index-2.result.now lt c.index-2.ensures c.deref-2.result.now c.deref-2.ensures.value in
    let one = subst (λ (xs : List Lit). IsOpenIn c.args.trail.now.literals xs c.in-Some.one) is c.in-Some.ensures in
    let two = subst (λ (xs : List Lit). IsOpenBut c.args.trail.now.literals xs c.in-Some.one c.in-Some-find_open.two) is2 c.in-Some-find_open.ensures in
    two_of _ _ c.in-Some.one c.in-Some-find_open.two (ps.each c.args.n there) one.there two.is_open.there (λ e. two.differs (sym e))

pub returns-in_err-watch-clause-goes : goal.returns-in_err-watch-clause-goes
returns-in_err-watch-clause-goes c =
    goes_past _ _ _ _ _ _ (advances_none _ _) c.watch.ensures.repaired

pub watch-requires-in-Some-find_open-clause-differ : goal.watch-requires-in-Some-find_open-clause-differ
watch-requires-in-Some-find_open-clause-differ c =
    let s = c.args.self.now in
    let ps = c.requires.watched.pairs_by in
    let lt = entry_there s.entries.items s.pairs.items c.args.n ps c.requires.there in
    let there = clause_there s.entries.items s.pairs.items c.args.n ps c.requires.there in
    let is = entry_clause s.entries.items c.args.n c.index.result.now lt c.index.ensures c.deref.result.now c.deref.ensures.value in
    let is2 = entry_clause s.entries.items c.args.n c.index-2.result.now lt c.index-2.ensures c.deref-2.result.now c.deref-2.ensures.value in
    let one = subst (λ (xs : List Lit). IsOpenIn c.args.trail.now.literals xs c.in-Some.one) is c.in-Some.ensures in
    let two = subst (λ (xs : List Lit). IsOpenBut c.args.trail.now.literals xs c.in-Some.one c.in-Some-find_open.two) is2 c.in-Some-find_open.ensures in
    c.watch.ensures.repaired.shapes.two c.args.n (two_of _ _ c.in-Some.one c.in-Some-find_open.two (ps.each c.args.n there) one.there two.is_open.there (λ e. two.differs (sym e)))

pub returns-in_err-watch-2-clause-goes : goal.returns-in_err-watch-2-clause-goes
returns-in_err-watch-2-clause-goes c =
    goes_past _ _ _ _ _ _ (advances_none _ _) (repaired_on _ _ _ _ c.watch.ensures.repaired c.watch-in-Some-find_open.ensures.repaired)

pub returns-in-Some-find_open-clause-goes : goal.returns-in-Some-find_open-clause-goes
returns-in-Some-find_open-clause-goes c =
    goes_past _ _ _ _ _ _ (advances_none _ _) (repaired_on _ _ _ _ c.watch.ensures.repaired c.watch-in-Some-find_open.ensures.repaired)

pub returns-in-Some-find_open-clause-fresh : goal.returns-in-Some-find_open-clause-fresh
returns-in-Some-find_open-clause-fresh c =
    let s = c.args.self.now in
    let ps = c.requires.watched.pairs_by in
    let lt = entry_there s.entries.items s.pairs.items c.args.n ps c.requires.there in
    let there = clause_there s.entries.items s.pairs.items c.args.n ps c.requires.there in
    let is = entry_clause s.entries.items c.args.n c.index.result.now lt c.index.ensures c.deref.result.now c.deref.ensures.value in
    let is2 = entry_clause s.entries.items c.args.n c.index-2.result.now lt c.index-2.ensures c.deref-2.result.now c.deref-2.ensures.value in
    let one = subst (λ (xs : List Lit). IsOpenIn c.args.trail.now.literals xs c.in-Some.one) is c.in-Some.ensures in
    let two = subst (λ (xs : List Lit). IsOpenBut c.args.trail.now.literals xs c.in-Some.one c.in-Some-find_open.two) is2 c.in-Some-find_open.ensures in
    let kept = pair_kept s.entries.items c.watch-in-Some-find_open.new.self.entries.items c.watch-in-Some-find_open.new.self.pairs.items c.args.n c.watch-in-Some-find_open.ensures.watched.pairs_by (c.watch-in-Some-find_open.ensures.entries ∙ c.watch.ensures.entries) there in
    (two_differ _ c.args.trail.now.literals _ c.in-Some.one c.in-Some-find_open.two (λ e. two.differs (sym e)) (c.watch-in-Some-find_open.ensures.keeps c.in_ok-watch.ensures.has) c.in_ok-watch-2.ensures.has kept, fresh_open _ c.args.trail.now.literals _ c.in-Some.one c.in-Some-find_open.two (λ e. two.differs (sym e)) (c.watch-in-Some-find_open.ensures.keeps c.in_ok-watch.ensures.has) c.in_ok-watch-2.ensures.has kept one.not_false two.is_open.not_false)

pub force-requires-clause-others : goal.force-requires-clause-others
force-requires-clause-others c =
    let s = c.args.self.now in
    let ps = c.requires.watched.pairs_by in
    let lt = entry_there s.entries.items s.pairs.items c.args.n ps c.requires.there in
    let there = clause_there s.entries.items s.pairs.items c.args.n ps c.requires.there in
    let is2 = entry_clause s.entries.items c.args.n c.index-2.result.now lt c.index-2.ensures c.deref-2.result.now c.deref-2.ensures.value in
    subst (λ (xs : List Lit). AreFalseBut c.args.trail.now.literals xs c.in-Some.one) is2 c.in_default-find_open.ensures

pub returns-then-same-clause-fresh : goal.returns-then-same-clause-fresh
returns-then-same-clause-fresh c =
    let s = c.args.self.now in
    let ps = c.requires.watched.pairs_by in
    let lt = entry_there s.entries.items s.pairs.items c.args.n ps c.requires.there in
    let there = clause_there s.entries.items s.pairs.items c.args.n ps c.requires.there in
    let is = entry_clause s.entries.items c.args.n c.index.result.now lt c.index.ensures c.deref.result.now c.deref.ensures.value in
    let one = subst (λ (xs : List Lit). IsOpenIn c.args.trail.now.literals xs c.in-Some.one) is c.in-Some.ensures in
    let q = c.index-pair.result.now in
    let at = c.index-pair.ensures ∙ get_or_default s.pairs.items c.args.n q no_pair c.requires.there in
    let e = subst (λ (p : Pair). p.first ≡ p.second) at c.if-same.ensures in
    (e, fresh_single _ _ _ c.in-Some.one NoPrefix (λ r x. x) (ps.each c.args.n there) e one.there c.force.ensures.holds)

pub latest_but-last-requires-clause-known : goal.latest_but-last-requires-clause-known
latest_but-last-requires-clause-known c =
    let s = c.args.self.now in
    let ps = c.requires.watched.pairs_by in
    let lt = entry_there s.entries.items s.pairs.items c.args.n ps c.requires.there in
    let there = clause_there s.entries.items s.pairs.items c.args.n ps c.requires.there in
    let is3 = entry_clause s.entries.items c.args.n c.index-3.result.now lt c.index-3.ensures c.deref-3.result.now c.deref-3.ensures.value in
    all_known (clauses_of s.entries.items) c.args.trail.now.vars c.args.n c.deref-3.result.now c.requires.known there is3

pub latest_but-last-requires-clause-start : goal.latest_but-last-requires-clause-start
latest_but-last-requires-clause-start c =
    let s = c.args.self.now in
    let ps = c.requires.watched.pairs_by in
    let lt = entry_there s.entries.items s.pairs.items c.args.n ps c.requires.there in
    let there = clause_there s.entries.items s.pairs.items c.args.n ps c.requires.there in
    let is3 = entry_clause s.entries.items c.args.n c.index-3.result.now lt c.index-3.ensures c.deref-3.result.now c.deref-3.ensures.value in
    let q = c.index-pair.result.now in
    let at = c.index-pair.ensures ∙ get_or_default s.pairs.items c.args.n q no_pair c.requires.there in
    let d = subst (λ (p : Pair). p.first ≢ p.second) at c.if-same.ensures in
    let had = subst (λ (p : Pair). Has p c.other_of.result) at (taken_had c.in-Some.one c.other_of.result q c.other_of.ensures.first c.other_of.ensures.second) in
    record {
      there = subst (λ (xs : List Lit). Contains xs c.other_of.result) (sym is3) (had_in _ _ c.other_of.result (ps.each c.args.n there) d had);
      differs = other_differs q c.in-Some.one c.other_of.result c.if-same.ensures c.other_of.ensures.first c.other_of.ensures.second;
    }

pub returns-in_err-watch-3-clause-goes : goal.returns-in_err-watch-3-clause-goes
returns-in_err-watch-3-clause-goes c =
    goes_past _ _ _ _ _ _ (advances_none _ _) c.watch-2.ensures.repaired

pub returns-in_err-watch-4-clause-goes : goal.returns-in_err-watch-4-clause-goes
returns-in_err-watch-4-clause-goes c =
    goes_past _ _ _ _ _ _ (advances_none _ _) (repaired_on _ _ _ _ c.watch-2.ensures.repaired c.watch-3.ensures.repaired)

pub returns-in_err-watch-4-clause-repaired : goal.returns-in_err-watch-4-clause-repaired
returns-in_err-watch-4-clause-repaired c =
    repaired_on _ _ _ _ c.watch-2.ensures.repaired c.watch-3.ensures.repaired

pub force-requires-2-clause-others : goal.force-requires-2-clause-others
force-requires-2-clause-others c =
    let s = c.args.self.now in
    let ps = c.requires.watched.pairs_by in
    let lt = entry_there s.entries.items s.pairs.items c.args.n ps c.requires.there in
    let there = clause_there s.entries.items s.pairs.items c.args.n ps c.requires.there in
    let is2 = entry_clause s.entries.items c.args.n c.index-2.result.now lt c.index-2.ensures c.deref-2.result.now c.deref-2.ensures.value in
    let entries = c.watch-3.ensures.entries ∙ c.watch-2.ensures.entries in
    subst (λ (es : List StoredClause). AreFalseBut c.args.trail.now.literals (get_or (clauses_of es) c.args.n []) c.in-Some.one) (sym entries) (subst (λ (xs : List Lit). AreFalseBut c.args.trail.now.literals xs c.in-Some.one) is2 c.in_default-find_open.ensures)

pub returns-clause-goes : goal.returns-clause-goes
returns-clause-goes c =
    let entries = c.watch-3.ensures.entries ∙ c.watch-2.ensures.entries in
    goes_past _ _ _ _ _ _ (subst (λ (es : List StoredClause). Advances (bare es) c.args.trail.now c.force-2.new.trail) entries c.force-2.ensures.advances) (repaired_on _ _ _ _ c.watch-2.ensures.repaired c.watch-3.ensures.repaired)

pub returns-clause-repaired : goal.returns-clause-repaired
returns-clause-repaired c =
    repaired_on _ _ _ _ c.watch-2.ensures.repaired c.watch-3.ensures.repaired

pub returns-clause-fresh : goal.returns-clause-fresh
returns-clause-fresh c =
    let s = c.args.self.now in
    let ps = c.requires.watched.pairs_by in
    let lt = entry_there s.entries.items s.pairs.items c.args.n ps c.requires.there in
    let there = clause_there s.entries.items s.pairs.items c.args.n ps c.requires.there in
    let kept = pair_kept s.entries.items c.watch-3.new.self.entries.items c.watch-3.new.self.pairs.items c.args.n c.watch-3.ensures.watched.pairs_by (c.watch-3.ensures.entries ∙ c.watch-2.ensures.entries) there in
    (two_differ _ c.force-2.new.trail.literals _ c.in-Some.one c.latest_but-last.result (λ e. c.latest_but-last.ensures.differs (sym e)) (c.watch-3.ensures.keeps c.in_ok-watch-3.ensures.has) c.in_ok-watch-4.ensures.has kept, fresh_forced _ c.force-2.new.trail.literals _ c.in-Some.one c.latest_but-last.result (λ e. c.latest_but-last.ensures.differs (sym e)) (c.watch-3.ensures.keeps c.in_ok-watch-3.ensures.has) c.in_ok-watch-4.ensures.has kept (Below c.force-2.new.trail c.level_by.result) c.is_sound-2.ensures.consistent c.force-2.ensures.holds (below_safe c.force-2.new.trail c.level_by.result c.latest_but-last.result c.level_by.ensures))
