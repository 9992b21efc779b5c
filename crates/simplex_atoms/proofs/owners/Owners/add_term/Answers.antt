-- The index has the new variable, or is as it was.
use Rattle.std.proofs.Common.{◌≡◌, ℕ, nat_eq, sym, ◌∙◌, ap, subst, length, cond, rules, Some, None}
use Rattle.std.specs.HashMap.{get}
use Rattle.std.specs.Map.{lookup}
use Rattle.simplex_atoms.specs.Owners.{OwnersView, IsInverse, IsNumberOf}
use Rattle.simplex_atoms.proofs.Owning.{inverse_none, inverse_term}
use Rattle.simplex_atoms.proofs.owners.Owners.add_term.Goals as goal

pub invariant_of-self : goal.invariant_of-self
invariant_of-self c =
    let g = get nat_eq c.self.inside.numbers in
    let new = get nat_eq c.insert.new.self in
    let os = c.self.inside.list.items in
    let Free : OwnersView → Type 0 = λ v. IsNumberOf v.list c.args.id None in
    let free : IsNumberOf os c.args.id None = subst Free (sym c.self.view_is) c.requires.is_new in
    let updates : (q : ℕ) → new q ≡ cond (nat_eq c.args.id.0 q) (Some (length os)) (g q) =
    λ q. c.in-Ok.ensures.updates.0 q ∙ ap (λ n. cond (nat_eq c.args.id.0 q) (Some n) (g q)) (search (rules, c.len-y.ensures)) in
    subst (IsInverse new) (sym c.push_reserved.ensures.items) (inverse_term g new os c.args.id c.self.invariant updates free)

pub invariant_of-self-in-Err : goal.invariant_of-self-in-Err
invariant_of-self-in-Err c =
    let g = get nat_eq c.self.inside.numbers in
    let new = get nat_eq c.insert.new.self in
    subst (IsInverse new) (sym c.push_reserved-in-Err.ensures.items)
    (inverse_none g new c.self.inside.list.items c.self.invariant (λ (q : ℕ). ap (lookup (nat_eq q)) c.in-Err.ensures.err))
