-- The lists have all users, and a term past them has none.
use Rattle.std.proofs.Common.{List, [], ◌∙◌, subst, arith}
use Rattle.std.proofs.lemmas.List.{length-map}
use Rattle.congruence_relation.specs.Relation.{Application, applications}
use Rattle.congruence_closure.specs.Listed.{AreUsers}
use Rattle.congruence_closure.specs.Tables.{lists}
use Rattle.congruence_closure.proofs.Places.{list_at, users_found, none_there}
use Rattle.congruence_closure.proofs.listing.Listing.users_of.Goals as goal

pub returns-then-t-len : goal.returns-then-t-len
returns-then-t-len c = subst (λ (xs : List Application). AreUsers xs c.args.t c.as_slice.result.now) c.self.view_is
    (users_found (applications c.self.inside.listed.items) c.self.inside.places.items (lists c.self.inside.users.items) c.args.t c.as_slice.result.now c.self.invariant
    (c.as_slice.ensures.value ∙ list_at c.self.inside.users.items c.args.t.0 c.index.result.now (omega arith) c.index.ensures))

pub returns-else-t-len : goal.returns-else-t-len
returns-else-t-len c = subst (λ (xs : List Application). AreUsers xs c.args.t []) c.self.view_is
    (λ i lt part there. absurd (none_there (lists c.self.inside.users.items) c.args.t.0 i (omega (arith, length-map c.self.inside.users.items (λ v. v.items))) (c.self.invariant.users i c.args.t lt part there)))
