-- What a look at a clause comes to.
use Rattle.std.proofs.Common.{arith, ◌≡◌, ◌≢◌, ℕ, set, ◌∙◌, List, Contains, refl, sym, subst}
use Rattle.std.specs.List.{swap_remove}
use Rattle.std.proofs.lemmas.List.Elements.{Contains-push}
use Rattle.term_core.specs.declared.ids.Lit.{Lit}
use Rattle.clause_literals.specs.Literals.{lit_complement}
use Rattle.watch_index.specs.Indexes.{code, IsMoved}
use Rattle.watch_index.proofs.Changes.{swap_default}
use Rattle.clause_store.specs.Entries.{clauses_of, bare}
use Rattle.clause_store.specs.Watching.{IsOpenBut, AreFalseBut}
use Rattle.clause_store.proofs.Adding.{adds_one}
use Rattle.clause_store.proofs.QuietPairs.{goes_none, goes_by, goes_moved}
use Rattle.clause_store.proofs.Stored.{entry_there, clause_there, entry_clause, entry_step, known_of, all_known}
use Rattle.clause_store.proofs.Indexing.{code_tells}
use Rattle.clause_store.proofs.Looking.{place_with, number_with, moved_with, below, differ, which, other_had, had_in, keeps, passes, all_false, indexed_now, pairs_now, exchanged}
use Rattle.clause_store.proofs.watched.Watched.take_up.Goals as goal

pub index-requires : goal.index-requires
index-requires c =
    let s = c.args.self.now in
    let index = set s.index (code c.args.f) c.args.list.now.items in
    let place = place_with s.index c.args.f c.args.list.now.items c.requires.watched.there c.args.at c.requires.place in
    let number = number_with s.index c.args.f c.args.list.now.items c.requires.watched.there c.args.n c.args.at c.requires.number in
    let ix = c.requires.watched.index_by in
    let ps = c.requires.watched.pairs_by in
    let lt = below s.pairs.items index ix c.args.f c.args.n c.args.at place number in
    omega (arith, lt, s.pairs.ok.0)

pub is_true-requires : goal.is_true-requires
is_true-requires c =
    let s = c.args.self.now in
    let index = set s.index (code c.args.f) c.args.list.now.items in
    let place = place_with s.index c.args.f c.args.list.now.items c.requires.watched.there c.args.at c.requires.place in
    let number = number_with s.index c.args.f c.args.list.now.items c.requires.watched.there c.args.n c.args.at c.requires.number in
    let ix = c.requires.watched.index_by in
    let ps = c.requires.watched.pairs_by in
    let lt = below s.pairs.items index ix c.args.f c.args.n c.args.at place number in
    let two = differ s.pairs.items index ix c.args.f c.args.n c.args.at place number in
    let w = which s.pairs.items index ix c.args.f c.args.n c.args.at place number c.index.result.now c.other_of-other.result c.index.ensures c.other_of-other.ensures.first c.other_of-other.ensures.second in
    let there = had_in _ _ c.other_of-other.result (ps.each c.args.n (clause_there s.entries.items s.pairs.items c.args.n ps lt)) two (other_had c.args.f c.other_of-other.result _ w) in
    known_of (clauses_of s.entries.items) c.args.trail.now.vars c.args.n c.other_of-other.result c.requires.known (clause_there s.entries.items s.pairs.items c.args.n ps lt) there

pub returns-then-is_true-clause-goes : goal.returns-then-is_true-clause-goes
returns-then-is_true-clause-goes c = goes_none _ _ _ _

pub returns-then-is_true-clause-looks : goal.returns-then-is_true-clause-looks
returns-then-is_true-clause-looks c =
    let s = c.args.self.now in
    let index = set s.index (code c.args.f) c.args.list.now.items in
    let place = place_with s.index c.args.f c.args.list.now.items c.requires.watched.there c.args.at c.requires.place in
    let number = number_with s.index c.args.f c.args.list.now.items c.requires.watched.there c.args.n c.args.at c.requires.number in
    let ix = c.requires.watched.index_by in
    let ps = c.requires.watched.pairs_by in
    let lt = below s.pairs.items index ix c.args.f c.args.n c.args.at place number in
    let two = differ s.pairs.items index ix c.args.f c.args.n c.args.at place number in
    let w = which s.pairs.items index ix c.args.f c.args.n c.args.at place number c.index.result.now c.other_of-other.result c.index.ensures c.other_of-other.ensures.first c.other_of-other.ensures.second in
    (refl, refl, passes c.args.f c.other_of-other.result _ w two c.args.trail.now.literals c.if-is_true.ensures)

pub index-requires-2 : goal.index-requires-2
index-requires-2 c =
    let s = c.args.self.now in
    let index = set s.index (code c.args.f) c.args.list.now.items in
    let place = place_with s.index c.args.f c.args.list.now.items c.requires.watched.there c.args.at c.requires.place in
    let number = number_with s.index c.args.f c.args.list.now.items c.requires.watched.there c.args.n c.args.at c.requires.number in
    let ix = c.requires.watched.index_by in
    let ps = c.requires.watched.pairs_by in
    let lt = below s.pairs.items index ix c.args.f c.args.n c.args.at place number in
    omega (arith, entry_there s.entries.items s.pairs.items c.args.n ps lt, s.entries.ok.0)

pub next_open-requires : goal.next_open-requires
next_open-requires c =
    let s = c.args.self.now in
    let index = set s.index (code c.args.f) c.args.list.now.items in
    let place = place_with s.index c.args.f c.args.list.now.items c.requires.watched.there c.args.at c.requires.place in
    let number = number_with s.index c.args.f c.args.list.now.items c.requires.watched.there c.args.n c.args.at c.requires.number in
    let ix = c.requires.watched.index_by in
    let ps = c.requires.watched.pairs_by in
    let lt = below s.pairs.items index ix c.args.f c.args.n c.args.at place number in
    let is = entry_clause s.entries.items c.args.n c.index-2.result.now (entry_there s.entries.items s.pairs.items c.args.n ps lt) c.index-2.ensures c.deref.result.now c.deref.ensures.value in
    all_known (clauses_of s.entries.items) c.args.trail.now.vars c.args.n c.deref.result.now c.requires.known (clause_there s.entries.items s.pairs.items c.args.n ps lt) is

pub index_mut-requires : goal.index_mut-requires
index_mut-requires c =
    let s = c.args.self.now in
    let index = set s.index (code c.args.f) c.args.list.now.items in
    let place = place_with s.index c.args.f c.args.list.now.items c.requires.watched.there c.args.at c.requires.place in
    let number = number_with s.index c.args.f c.args.list.now.items c.requires.watched.there c.args.n c.args.at c.requires.number in
    let ix = c.requires.watched.index_by in
    let ps = c.requires.watched.pairs_by in
    let lt = below s.pairs.items index ix c.args.f c.args.n c.args.at place number in
    omega (arith, lt, s.pairs.ok.0)

pub is_false-requires : goal.is_false-requires
is_false-requires c =
    let s = c.args.self.now in
    let index = set s.index (code c.args.f) c.args.list.now.items in
    let place = place_with s.index c.args.f c.args.list.now.items c.requires.watched.there c.args.at c.requires.place in
    let number = number_with s.index c.args.f c.args.list.now.items c.requires.watched.there c.args.n c.args.at c.requires.number in
    let ix = c.requires.watched.index_by in
    let ps = c.requires.watched.pairs_by in
    let lt = below s.pairs.items index ix c.args.f c.args.n c.args.at place number in
    let two = differ s.pairs.items index ix c.args.f c.args.n c.args.at place number in
    let w = which s.pairs.items index ix c.args.f c.args.n c.args.at place number c.index.result.now c.other_of-other.result c.index.ensures c.other_of-other.ensures.first c.other_of-other.ensures.second in
    let there = had_in _ _ c.other_of-other.result (ps.each c.args.n (clause_there s.entries.items s.pairs.items c.args.n ps lt)) two (other_had c.args.f c.other_of-other.result _ w) in
    known_of (clauses_of s.entries.items) c.args.trail.now.vars c.args.n c.other_of-other.result c.requires.known (clause_there s.entries.items s.pairs.items c.args.n ps lt) there

pub returns-then-is_false-clause-goes : goal.returns-then-is_false-clause-goes
returns-then-is_false-clause-goes c = goes_none _ _ _ _

pub returns-then-is_false-clause-looks : goal.returns-then-is_false-clause-looks
returns-then-is_false-clause-looks c =
    let s = c.args.self.now in
    let index = set s.index (code c.args.f) c.args.list.now.items in
    let place = place_with s.index c.args.f c.args.list.now.items c.requires.watched.there c.args.at c.requires.place in
    let number = number_with s.index c.args.f c.args.list.now.items c.requires.watched.there c.args.n c.args.at c.requires.number in
    let ix = c.requires.watched.index_by in
    let ps = c.requires.watched.pairs_by in
    let lt = below s.pairs.items index ix c.args.f c.args.n c.args.at place number in
    let is = entry_clause s.entries.items c.args.n c.index-2.result.now (entry_there s.entries.items s.pairs.items c.args.n ps lt) c.index-2.ensures c.deref.result.now c.deref.ensures.value in
    let others = subst (λ (xs : List Lit). AreFalseBut c.args.trail.now.literals xs c.other_of-other.result) is c.in-None.ensures in
    record { there = clause_there s.entries.items s.pairs.items c.args.n ps lt; fails = all_false c.args.trail.now.literals _ c.other_of-other.result others c.if-is_false.ensures }

pub index-requires-in-None : goal.index-requires-in-None
index-requires-in-None c =
    let s = c.args.self.now in
    let index = set s.index (code c.args.f) c.args.list.now.items in
    let place = place_with s.index c.args.f c.args.list.now.items c.requires.watched.there c.args.at c.requires.place in
    let number = number_with s.index c.args.f c.args.list.now.items c.requires.watched.there c.args.n c.args.at c.requires.number in
    let ix = c.requires.watched.index_by in
    let ps = c.requires.watched.pairs_by in
    let lt = below s.pairs.items index ix c.args.f c.args.n c.args.at place number in
    omega (arith, entry_there s.entries.items s.pairs.items c.args.n ps lt, s.entries.ok.0)

pub imply-requires-clause-known : goal.imply-requires-clause-known
imply-requires-clause-known c =
    let s = c.args.self.now in
    let index = set s.index (code c.args.f) c.args.list.now.items in
    let place = place_with s.index c.args.f c.args.list.now.items c.requires.watched.there c.args.at c.requires.place in
    let number = number_with s.index c.args.f c.args.list.now.items c.requires.watched.there c.args.n c.args.at c.requires.number in
    let ix = c.requires.watched.index_by in
    let ps = c.requires.watched.pairs_by in
    let lt = below s.pairs.items index ix c.args.f c.args.n c.args.at place number in
    let two = differ s.pairs.items index ix c.args.f c.args.n c.args.at place number in
    let w = which s.pairs.items index ix c.args.f c.args.n c.args.at place number c.index.result.now c.other_of-other.result c.index.ensures c.other_of-other.ensures.first c.other_of-other.ensures.second in
    let there = had_in _ _ c.other_of-other.result (ps.each c.args.n (clause_there s.entries.items s.pairs.items c.args.n ps lt)) two (other_had c.args.f c.other_of-other.result _ w) in
    known_of (clauses_of s.entries.items) c.args.trail.now.vars c.args.n c.other_of-other.result c.requires.known (clause_there s.entries.items s.pairs.items c.args.n ps lt) there

pub returns-in-Ok-clause-watched : goal.returns-in-Ok-clause-watched
returns-in-Ok-clause-watched c =
    let s = c.args.self.now in
    let index = set s.index (code c.args.f) c.args.list.now.items in
    let place = place_with s.index c.args.f c.args.list.now.items c.requires.watched.there c.args.at c.requires.place in
    let number = number_with s.index c.args.f c.args.list.now.items c.requires.watched.there c.args.n c.args.at c.requires.number in
    let ix = c.requires.watched.index_by in
    let ps = c.requires.watched.pairs_by in
    let lt = below s.pairs.items index ix c.args.f c.args.n c.args.at place number in
    let two = differ s.pairs.items index ix c.args.f c.args.n c.args.at place number in
    let w = which s.pairs.items index ix c.args.f c.args.n c.args.at place number c.index.result.now c.other_of-other.result c.index.ensures c.other_of-other.ensures.first c.other_of-other.ensures.second in
    let is = entry_clause s.entries.items c.args.n c.index-2.result.now (entry_there s.entries.items s.pairs.items c.args.n ps lt) c.index-2.ensures c.deref.result.now c.deref.ensures.value in
    let found = subst (λ (xs : List Lit). IsOpenBut c.args.trail.now.literals xs c.other_of-other.result c.in-Some.d) is c.in-Some.ensures in
    let not_f : c.in-Some.d ≢ c.args.f = λ e. found.is_open.not_false (subst (λ (x : Lit). Contains c.args.trail.now.literals (lit_complement x)) (sym e) c.requires.fails) in
    let new = set c.add.new.self (code c.args.f) c.swap_remove.new.self.items in
    let removed : c.swap_remove.new.self.items ≡ swap_remove c.args.list.now.items c.args.at 0 = c.swap_remove.ensures.items ∙ swap_default c.args.list.now.items c.args.at c.swap_remove.result c.requires.place in
    let moved : IsMoved index c.args.f c.args.at c.in-Some.d new = subst (λ (xs : List ℕ). IsMoved index c.args.f c.args.at c.in-Some.d (set c.add.new.self (code c.args.f) xs)) (sym removed)
    (moved_with s.index c.args.f c.args.list.now.items c.requires.watched.there c.add.new.self c.in-Some.d c.args.n c.args.at (λ e. not_f (sym (code_tells c.args.f c.in-Some.d e))) (sym c.requires.number) c.in-Ok.ensures.ok) in
    record {
      there = omega (arith, c.requires.watched.there, c.in-Ok.ensures.ok.longer);
      pairs_by = pairs_now (clauses_of s.entries.items) s.pairs.items index new c.args.n c.args.at c.args.f c.other_of-other.result c.in-Some.d ps ix lt two w place (sym number) found.is_open.there found.differs not_f moved;
      index_by = indexed_now (clauses_of s.entries.items) s.pairs.items index new c.args.n c.args.at c.args.f c.other_of-other.result c.in-Some.d ps ix lt two w place (sym number) found.is_open.there found.differs not_f moved;
    }

pub returns-in-Ok-clause-goes : goal.returns-in-Ok-clause-goes
returns-in-Ok-clause-goes c =
    let s = c.args.self.now in
    let index = set s.index (code c.args.f) c.args.list.now.items in
    let place = place_with s.index c.args.f c.args.list.now.items c.requires.watched.there c.args.at c.requires.place in
    let number = number_with s.index c.args.f c.args.list.now.items c.requires.watched.there c.args.n c.args.at c.requires.number in
    let ix = c.requires.watched.index_by in
    let ps = c.requires.watched.pairs_by in
    let lt = below s.pairs.items index ix c.args.f c.args.n c.args.at place number in
    let two = differ s.pairs.items index ix c.args.f c.args.n c.args.at place number in
    let w = which s.pairs.items index ix c.args.f c.args.n c.args.at place number c.index.result.now c.other_of-other.result c.index.ensures c.other_of-other.ensures.first c.other_of-other.ensures.second in
    let is = entry_clause s.entries.items c.args.n c.index-2.result.now (entry_there s.entries.items s.pairs.items c.args.n ps lt) c.index-2.ensures c.deref.result.now c.deref.ensures.value in
    let found = subst (λ (xs : List Lit). IsOpenBut c.args.trail.now.literals xs c.other_of-other.result c.in-Some.d) is c.in-Some.ensures in
    let not_f : c.in-Some.d ≢ c.args.f = λ e. found.is_open.not_false (subst (λ (x : Lit). Contains c.args.trail.now.literals (lit_complement x)) (sym e) c.requires.fails) in
    goes_moved (bare s.entries.items) s.pairs.items c.args.trail.now c.args.n c.args.f c.in-Some.d c.other_of-other.result _ lt two c.is_sound.ensures.consistent c.requires.fails found.is_open.not_false found.differs refl
    (keeps c.args.f c.other_of-other.result _ w two)

pub returns-in-Ok-clause-looks : goal.returns-in-Ok-clause-looks
returns-in-Ok-clause-looks c =
    let s = c.args.self.now in
    let index = set s.index (code c.args.f) c.args.list.now.items in
    let place = place_with s.index c.args.f c.args.list.now.items c.requires.watched.there c.args.at c.requires.place in
    let number = number_with s.index c.args.f c.args.list.now.items c.requires.watched.there c.args.n c.args.at c.requires.number in
    let ix = c.requires.watched.index_by in
    let ps = c.requires.watched.pairs_by in
    let lt = below s.pairs.items index ix c.args.f c.args.n c.args.at place number in
    let two = differ s.pairs.items index ix c.args.f c.args.n c.args.at place number in
    let w = which s.pairs.items index ix c.args.f c.args.n c.args.at place number c.index.result.now c.other_of-other.result c.index.ensures c.other_of-other.ensures.first c.other_of-other.ensures.second in
    let is = entry_clause s.entries.items c.args.n c.index-2.result.now (entry_there s.entries.items s.pairs.items c.args.n ps lt) c.index-2.ensures c.deref.result.now c.deref.ensures.value in
    let found = subst (λ (xs : List Lit). IsOpenBut c.args.trail.now.literals xs c.other_of-other.result c.in-Some.d) is c.in-Some.ensures in
    let not_f : c.in-Some.d ≢ c.args.f = λ e. found.is_open.not_false (subst (λ (x : Lit). Contains c.args.trail.now.literals (lit_complement x)) (sym e) c.requires.fails) in
    let new = set c.add.new.self (code c.args.f) c.swap_remove.new.self.items in
    let removed : c.swap_remove.new.self.items ≡ swap_remove c.args.list.now.items c.args.at 0 = c.swap_remove.ensures.items ∙ swap_default c.args.list.now.items c.args.at c.swap_remove.result c.requires.place in
    let moved : IsMoved index c.args.f c.args.at c.in-Some.d new = subst (λ (xs : List ℕ). IsMoved index c.args.f c.args.at c.in-Some.d (set c.add.new.self (code c.args.f) xs)) (sym removed)
    (moved_with s.index c.args.f c.args.list.now.items c.requires.watched.there c.add.new.self c.in-Some.d c.args.n c.args.at (λ e. not_f (sym (code_tells c.args.f c.in-Some.d e))) (sym c.requires.number) c.in-Ok.ensures.ok) in
    exchanged (clauses_of s.entries.items) s.pairs.items index new c.args.n c.args.at c.args.f c.other_of-other.result c.in-Some.d ps ix lt two w place (sym number) found.is_open.there found.differs not_f moved

pub returns-in-Err-clause-goes : goal.returns-in-Err-clause-goes
returns-in-Err-clause-goes c = goes_none _ _ _ _

pub returns-else-is_false-clause-goes : goal.returns-else-is_false-clause-goes
returns-else-is_false-clause-goes c =
    let s = c.args.self.now in
    let index = set s.index (code c.args.f) c.args.list.now.items in
    let place = place_with s.index c.args.f c.args.list.now.items c.requires.watched.there c.args.at c.requires.place in
    let number = number_with s.index c.args.f c.args.list.now.items c.requires.watched.there c.args.n c.args.at c.requires.number in
    let ix = c.requires.watched.index_by in
    let ps = c.requires.watched.pairs_by in
    let lt = below s.pairs.items index ix c.args.f c.args.n c.args.at place number in
    let two = differ s.pairs.items index ix c.args.f c.args.n c.args.at place number in
    let w = which s.pairs.items index ix c.args.f c.args.n c.args.at place number c.index.result.now c.other_of-other.result c.index.ensures c.other_of-other.ensures.first c.other_of-other.ensures.second in
    let there = had_in _ _ c.other_of-other.result (ps.each c.args.n (clause_there s.entries.items s.pairs.items c.args.n ps lt)) two (other_had c.args.f c.other_of-other.result _ w) in
    let is = entry_clause s.entries.items c.args.n c.index-2.result.now (entry_there s.entries.items s.pairs.items c.args.n ps lt) c.index-2.ensures c.deref.result.now c.deref.ensures.value in
    let others = subst (λ (xs : List Lit). AreFalseBut c.args.trail.now.literals xs c.other_of-other.result) is c.in-None.ensures in
    let step = entry_step s.entries.items c.args.n c.index-in-None.result.now (entry_there s.entries.items s.pairs.items c.args.n ps lt) c.index-in-None.ensures in
    goes_by _ _ _ _ _ (adds_one (bare s.entries.items) c.args.trail.now _ c.args.n c.other_of-other.result _ (clause_there s.entries.items s.pairs.items c.args.n ps lt) there others step c.imply.ensures, c.imply.ensures.propagated)

pub returns-else-is_false-clause-looks : goal.returns-else-is_false-clause-looks
returns-else-is_false-clause-looks c =
    let s = c.args.self.now in
    let index = set s.index (code c.args.f) c.args.list.now.items in
    let place = place_with s.index c.args.f c.args.list.now.items c.requires.watched.there c.args.at c.requires.place in
    let number = number_with s.index c.args.f c.args.list.now.items c.requires.watched.there c.args.n c.args.at c.requires.number in
    let ix = c.requires.watched.index_by in
    let ps = c.requires.watched.pairs_by in
    let lt = below s.pairs.items index ix c.args.f c.args.n c.args.at place number in
    let two = differ s.pairs.items index ix c.args.f c.args.n c.args.at place number in
    let w = which s.pairs.items index ix c.args.f c.args.n c.args.at place number c.index.result.now c.other_of-other.result c.index.ensures c.other_of-other.ensures.first c.other_of-other.ensures.second in
    (refl, refl, passes c.args.f c.other_of-other.result _ w two _ (subst (λ (xs : List Lit). Contains xs c.other_of-other.result) (sym c.imply.ensures.literals) (Contains-push c.args.trail.now.literals c.other_of-other.result)))
