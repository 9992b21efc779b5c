-- What was written and what is left are the tree, wherever one is there.
use Rattle.std.proofs.Common.{ℕ, List, length, ◌-◌}
use Rattle.spec_text.specs.Places.{IsPlaceOf}
use Rattle.spec_text.specs.Trees.{Tree}
use Rattle.world_io.specs.Writing.{Sent}
use Rattle.smt_sexpr.specs.Printing.{IsTreeFrom}
use Rattle.smt_sexpr.proofs.Tokens.{Left}
use Rattle.smt_sexpr.proofs.write.write_tokens.Given as goal

abbrev pub invariant-loop-place : goal.invariant-loop-place
invariant-loop-place g l = record {
  place : IsPlaceOf l.text l.place;
  tree : (t : Tree) → IsTreeFrom l.text l.fn.first.offset l.last t → (done : List ℕ) × Left l.text t l.last l.wanted l.place.offset done × Sent done (g.K.Sink.state l.fn.out) (g.K.Sink.state l.out);
}

abbrev pub decreases-loop-place : goal.decreases-loop-place
decreases-loop-place g l = length l.text - l.place.offset
