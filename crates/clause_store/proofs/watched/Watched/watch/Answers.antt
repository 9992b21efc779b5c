-- One watch of a clause is moved.
use Rattle.std.proofs.Common.{◌≡◌, ◌≢◌, ◌∙◌, get_or, sym, subst}
use Rattle.std.proofs.lemmas.List.{get_or_default}
use Rattle.watch_index.specs.Indexes.{code}
use Rattle.clause_store.specs.declared.pair.Pair.{Pair}
use Rattle.clause_store.specs.Stores.{no_pair}
use Rattle.clause_store.specs.Entries.{clauses_of}
use Rattle.clause_store.specs.Watching.{Has}
use Rattle.clause_store.proofs.Indexing.{lists}
use Rattle.clause_store.proofs.Looking.{IsOther, taken_had, lacks, other_by, other_had, has_code, indexed_now, pairs_now, repaired}
use Rattle.clause_store.proofs.watched.Watched.watch.Goals as goal

pub move_to-requires : goal.move_to-requires
move_to-requires c =
    let s = c.args.self.now in
    let ix = c.requires.watched.index_by in
    let ps = c.requires.watched.pairs_by in
    let q = c.index-pair.result.now in
    let is : q ≡ get_or s.pairs.items c.args.n no_pair = c.index-pair.ensures ∙ get_or_default s.pairs.items c.args.n q no_pair c.requires.there in
    let two : q.first ≢ q.second = subst (λ (p : Pair). p.first ≢ p.second) (sym is) c.requires.differ in
    let from = c.other_of-from.result in
    let had : Has q from = taken_had c.args.kept from q c.other_of-from.ensures.first c.other_of-from.ensures.second in
    lists s.pairs.items s.index ix c.args.n (code from) c.requires.there c.requires.differ (has_code from _ (subst (λ (p : Pair). Has p from) is had))

pub returns-in-Ok-clause-watched : goal.returns-in-Ok-clause-watched
returns-in-Ok-clause-watched c =
    let s = c.args.self.now in
    let ix = c.requires.watched.index_by in
    let ps = c.requires.watched.pairs_by in
    let q = c.index-pair.result.now in
    let is : q ≡ get_or s.pairs.items c.args.n no_pair = c.index-pair.ensures ∙ get_or_default s.pairs.items c.args.n q no_pair c.requires.there in
    let two : q.first ≢ q.second = subst (λ (p : Pair). p.first ≢ p.second) (sym is) c.requires.differ in
    let from = c.other_of-from.result in
    let had : Has q from = taken_had c.args.kept from q c.other_of-from.ensures.first c.other_of-from.ensures.second in
    let other = c.other_of.result in
    let w : IsOther from other q = other_by from other q had c.other_of.ensures.first c.other_of.ensures.second in
    let m = c.in-Ok.ensures.ok in
    let at_pair : IsOther from other (get_or s.pairs.items c.args.n no_pair) = subst (IsOther from other) is w in
    let not_from = lacks c.args.wanted from q c.if-same.ensures c.if-same-2.ensures had in
    let not_other = lacks c.args.wanted other q c.if-same.ensures c.if-same-2.ensures (other_had from other q w) in
    record {
      pairs_by = pairs_now (clauses_of s.entries.items) s.pairs.items s.index c.move_to.new.self c.args.n m.at from other c.args.wanted ps ix c.requires.there c.requires.differ at_pair m.there m.is c.requires.wanted.there not_other not_from m.moved;
      index_by = indexed_now (clauses_of s.entries.items) s.pairs.items s.index c.move_to.new.self c.args.n m.at from other c.args.wanted ps ix c.requires.there c.requires.differ at_pair m.there m.is c.requires.wanted.there not_other not_from m.moved;
    }

pub returns-in-Ok-clause-repaired : goal.returns-in-Ok-clause-repaired
returns-in-Ok-clause-repaired c =
    let s = c.args.self.now in
    let ix = c.requires.watched.index_by in
    let ps = c.requires.watched.pairs_by in
    let q = c.index-pair.result.now in
    let is : q ≡ get_or s.pairs.items c.args.n no_pair = c.index-pair.ensures ∙ get_or_default s.pairs.items c.args.n q no_pair c.requires.there in
    let two : q.first ≢ q.second = subst (λ (p : Pair). p.first ≢ p.second) (sym is) c.requires.differ in
    let from = c.other_of-from.result in
    let had : Has q from = taken_had c.args.kept from q c.other_of-from.ensures.first c.other_of-from.ensures.second in
    let other = c.other_of.result in
    let w : IsOther from other q = other_by from other q had c.other_of.ensures.first c.other_of.ensures.second in
    let m = c.in-Ok.ensures.ok in
    let at_pair : IsOther from other (get_or s.pairs.items c.args.n no_pair) = subst (IsOther from other) is w in
    let not_from = lacks c.args.wanted from q c.if-same.ensures c.if-same-2.ensures had in
    let not_other = lacks c.args.wanted other q c.if-same.ensures c.if-same-2.ensures (other_had from other q w) in
    repaired (clauses_of s.entries.items) s.pairs.items s.index c.move_to.new.self c.args.n m.at from other c.args.wanted ps ix c.requires.there c.requires.differ at_pair m.there m.is c.requires.wanted.there not_other not_from m.moved
