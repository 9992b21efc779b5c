-- The new term has the last place.
use Rattle.std.proofs.Common.{◌≡◌, ◌++◌, ◌∷◌, [], List, length, set, sym, ap, ◌∙◌, subst, arith}
use Rattle.std.proofs.lemmas.List.{map_push, length-map}
use Rattle.term_core.specs.declared.ids.TermId.{TermId}
use Rattle.term_core.specs.Tables.{Shape, shape_of}
use Rattle.congruence_relation.specs.Relation.{Application, application, applications}
use Rattle.congruence_closure.specs.Listed.{IsListed}
use Rattle.congruence_closure.specs.Tables.{lists, HaveKeptBelow, HaveNoted, IsIndexed}
use Rattle.congruence_closure.proofs.Places.{indexed_kept, indexed_push}
use Rattle.congruence_closure.proofs.listing.Listing.add.Goals as goal

pub invariant_of-self-in_err-grow : goal.invariant_of-self-in_err-grow
invariant_of-self-in_err-grow c =
    let is : applications c.reserve.new.self.items ≡ applications c.self.inside.listed.items = ap applications c.in_ok-reserve.ensures.items in
    subst (λ xs. IsIndexed xs c.grow.new.numbers.items (lists c.self.inside.users.items)) (sym is)
    (indexed_kept (applications c.self.inside.listed.items) c.self.inside.places.items c.grow.new.numbers.items (lists c.self.inside.users.items) (lists c.self.inside.users.items) c.self.invariant
    c.in_err-grow.ensures.kept (λ t i low there. there))

pub invariant_of-self-in_err-note_users : goal.invariant_of-self-in_err-note_users
invariant_of-self-in_err-note_users c =
    let is : applications c.reserve.new.self.items ≡ applications c.self.inside.listed.items = ap applications c.in_ok-reserve.ensures.items in
    let place : c.len-place.result ≡ length (applications c.self.inside.listed.items) = omega (arith, length-map c.self.inside.listed.items application, c.self.inside.listed.ok.0) in
    subst (λ xs. IsIndexed xs c.grow.new.numbers.items (lists c.note_users.new.all.items)) (sym is)
    (indexed_kept (applications c.self.inside.listed.items) c.self.inside.places.items c.grow.new.numbers.items (lists c.self.inside.users.items) (lists c.note_users.new.all.items) c.self.invariant
    c.in_ok-grow.ensures.kept (subst (λ k. HaveKeptBelow k (lists c.self.inside.users.items) (lists c.note_users.new.all.items)) place c.in_err-note_users.ensures.kept))

pub invariant_of-self-2 : goal.invariant_of-self-2
invariant_of-self-2 c =
    let x : Application = record { term = c.args.term; shape = shape_of c.args.node.now; takes_part = c.args.takes_part } in
    let shape : shape_of c.in_ok-copy.copy ≡ shape_of c.args.node.now = λ i. record { head = c.in_ok-copy.ensures.0 i; arguments = (c.in_ok-copy.ensures.1 ∙ c.as_slice.ensures) i } in
    let is : applications c.push_reserved.new.self.items ≡ applications c.self.inside.listed.items ++ x ∷ []
    = ap applications c.push_reserved.ensures.items ∙ map_push application c.reserve.new.self.items (record { term = c.args.term; node = c.in_ok-copy.copy; takes_part = c.args.takes_part })
    ∙ ap (λ xs. applications xs ++ record { term = c.args.term; shape = shape_of c.in_ok-copy.copy; takes_part = c.args.takes_part } ∷ []) c.in_ok-reserve.ensures.items
    ∙ ap (λ (s : Shape). applications c.self.inside.listed.items ++ record { term = c.args.term; shape = s; takes_part = c.args.takes_part } ∷ []) shape in
    let place : c.len-place.result ≡ length (applications c.self.inside.listed.items) = omega (arith, length-map c.self.inside.listed.items application, c.self.inside.listed.ok.0) in
    let none = subst (λ (xs : List Application). IsListed xs c.args.term → ⊥) (sym c.self.view_is) c.requires in
    subst (λ k. IsIndexed (applications c.push_reserved.new.self.items) (set c.grow.new.numbers.items c.args.term.0 k) (lists c.note_users.new.all.items)) (sym place)
    (subst (λ xs. IsIndexed xs (set c.grow.new.numbers.items c.args.term.0 (length (applications c.self.inside.listed.items))) (lists c.note_users.new.all.items)) (sym is)
    (indexed_push (applications c.self.inside.listed.items) c.self.inside.places.items c.grow.new.numbers.items (lists c.self.inside.users.items) (lists c.note_users.new.all.items) x c.self.invariant none
    c.in_ok-grow.ensures.kept c.in_ok-grow.ensures.ok
    (subst (λ k. HaveKeptBelow k (lists c.self.inside.users.items) (lists c.note_users.new.all.items)) place c.in_ok-note_users.ensures.kept)
    (λ part. subst (λ k. HaveNoted c.args.node.now.arguments.items k (lists c.note_users.new.all.items)) place
    (subst (λ (ts : List TermId). HaveNoted ts c.len-place.result (lists c.note_users.new.all.items)) (c.used_by.ensures part) c.in_ok-note_users.ensures.ok))))
