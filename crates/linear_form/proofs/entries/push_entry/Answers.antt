-- The index has the new entry besides those that it had, where there is one.
use Rattle.std.proofs.Common.{◌≡◌, ◌∷◌, ◌++◌, [], length, nat_eq, rules, sym, ap, ◌∙◌, subst, Some}
use Rattle.std.specs.HashMap.{get}
use Rattle.linear_form.specs.Entries.{IsIndex, IsKept}
use Rattle.linear_form.proofs.Indexes.{index_push, kept_index, kept_push, kept_same, map_same}
use Rattle.linear_form.proofs.entries.push_entry.Goals as goal

pub returns-then-len-lt-FEW-clause-index : goal.returns-then-len-lt-FEW-clause-index
returns-then-len-lt-FEW-clause-index c =
    kept_push (get nat_eq c.args.places.now) c.args.entries.now.items c.push_reserved.new.self.items c.args.id c.args.k
    (search (rules, c.if-len-lt-FEW.true, c.len.result, c.reserve.ensures.items)) c.requires.new c.requires.not_zero
    (c.push_reserved.ensures.items ∙ ap (λ l. l ++ (c.args.id, c.args.k) ∷ []) c.reserve.ensures.items) c.requires.index

pub index_all-requires : goal.index_all-requires
index_all-requires c = record { index = subst (IsKept (get nat_eq c.args.places.now)) (sym (c.as_slice.ensures.value ∙ c.reserve.ensures.items)) c.requires.index }

pub returns-in_err-index_all-clause-index : goal.returns-in_err-index_all-clause-index
returns-in_err-index_all-clause-index c = subst (IsKept (get nat_eq c.index_all.new.places)) c.as_slice.ensures.value c.index_all.ensures.kept

pub returns-in_err-insert-clause-index : goal.returns-in_err-insert-clause-index
returns-in_err-insert-clause-index c =
    kept_same (get nat_eq c.index_all.new.places) (get nat_eq c.insert.new.self) c.as_slice.result.now c.reserve.new.self.items
    (map_same c.index_all.new.places c.insert.new.self c.in_err-insert.ensures.err) (sym c.as_slice.ensures.value) c.index_all.ensures.kept

pub returns-clause-index : goal.returns-clause-index
returns-clause-index c =
    let n : c.len-2.result ≡ length c.args.entries.now.items = search (rules, c.reserve.ensures.items) in
    kept_index (get nat_eq c.insert.new.self) c.push_reserved-2.new.self.items
    (index_push (get nat_eq c.index_all.new.places) (get nat_eq c.insert.new.self) c.args.entries.now.items c.args.id c.args.k
    (subst (IsIndex (get nat_eq c.index_all.new.places)) (c.as_slice.ensures.value ∙ c.reserve.ensures.items) c.in_ok-index_all.ensures.made) c.requires.new c.requires.not_zero
    (c.in_ok-insert.ensures.updates.1 ∙ ap Some n) (c.in_ok-insert.ensures.updates.2) c.push_reserved-2.new.self.items
    (c.push_reserved-2.ensures.items ∙ ap (λ l. l ++ (c.args.id, c.args.k) ∷ []) c.reserve.ensures.items))
