-- The terms up to here are judged.
use Rattle.std.proofs.Common.{◌≡◌, ◌<◌, ◌&&◌, ℕ, false, length, get_or}
use Rattle.spec_sorts.specs.Terms.{no_term}
use Rattle.spec_proof_texts.specs.Plans.{is_compound}
use Rattle.alethe_writer.specs.declared.uses.Uses.TheVariants.{Never}
use Rattle.alethe_writer.specs.Uses.{is_once}
use Rattle.alethe_writer.proofs.uses.mark_single.Given as goal

abbrev pub invariant-terms : goal.invariant-terms
invariant-terms l = record {
  as_many : length l.single.items ≡ l.number;
  each : (k : ℕ) → k < l.number → get_or l.single.items k false ≡ get_or l.printed k false && (is_compound (get_or l.table.terms k no_term) && is_once (get_or l.uses k Never));
}
