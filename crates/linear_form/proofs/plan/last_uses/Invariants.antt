-- The last uses up to here.
use Rattle.std.proofs.Common.{◌≡◌, ℕ, ◌<◌, ◌≤◌, length, get_or}
use Rattle.linear_form.proofs.plan.last_uses.Given as goal

abbrev pub invariant-uses : goal.invariant-uses
invariant-uses l = record {
  len : length l.last.items ≡ l.places;
  so_far : (i : ℕ) → i < l.tick → i ≤ get_or l.last.items (get_or l.uses i 0) 0;
}
