-- The list of the term has the place last, or none is changed.
use Rattle.std.proofs.Common.{ℕ, List, [], ◌∷◌, ◌++◌, ◌<◌, get_or, sym, ap, ◌∙◌, subst}
use Rattle.std.specs.Prelude.{slice_set, Contains}
use Rattle.std.proofs.lemmas.List.{get_or-set_same, length-map}
use Rattle.std.proofs.lemmas.List.Elements.{Contains-append_left, Contains-push}
use Rattle.congruence_closure.specs.Tables.{lists}
use Rattle.congruence_closure.proofs.Places.{list_at, lists_set, kept_set}
use Rattle.congruence_closure.proofs.users.note.Goals as goal

pub returns-in_err-push-clause-kept : goal.returns-in_err-push-clause-kept
returns-in_err-push-clause-kept c =
    let at = list_at c.args.all.now.items c.args.t.0 c.index_mut.result.now c.requires c.index_mut.ensures.value in
    kept_set (lists c.args.all.now.items) (lists (slice_set c.args.all.now.items c.args.t.0 c.push.new.self)) c.args.t.0 c.push.new.self.items (lists_set c.args.all.now.items c.args.t.0 c.push.new.self)
    (λ i there. subst (λ (xs : List ℕ). Contains xs i) (sym (c.in_err-push.ensures.items ∙ at)) there)

pub returns-clause-kept : goal.returns-clause-kept
returns-clause-kept c =
    let at = list_at c.args.all.now.items c.args.t.0 c.index_mut.result.now c.requires c.index_mut.ensures.value in
    let is = c.in_ok-push.ensures.items ∙ ap (λ xs. xs ++ c.args.place ∷ []) at in
    kept_set (lists c.args.all.now.items) (lists (slice_set c.args.all.now.items c.args.t.0 c.push.new.self)) c.args.t.0 c.push.new.self.items (lists_set c.args.all.now.items c.args.t.0 c.push.new.self)
    (λ i there. subst (λ (xs : List ℕ). Contains xs i) (sym is) (Contains-append_left (get_or (lists c.args.all.now.items) c.args.t.0 []) (c.args.place ∷ []) i there))

pub returns-clause-ok : goal.returns-clause-ok
returns-clause-ok c =
    let at = list_at c.args.all.now.items c.args.t.0 c.index_mut.result.now c.requires c.index_mut.ensures.value in
    let is = c.in_ok-push.ensures.items ∙ ap (λ xs. xs ++ c.args.place ∷ []) at in
    let low = subst (λ n. c.args.t.0 < n) (sym (length-map c.args.all.now.items (λ v. v.items))) c.requires in
    subst (λ (xs : List ℕ). Contains xs c.args.place)
    (sym (ap (λ xs. get_or xs c.args.t.0 []) (lists_set c.args.all.now.items c.args.t.0 c.push.new.self) ∙ get_or-set_same (lists c.args.all.now.items) c.args.t.0 c.push.new.self.items [] low ∙ is))
    (Contains-push (get_or (lists c.args.all.now.items) c.args.t.0 []) c.args.place)
