-- A clause more comes last.
use Rattle.std.proofs.Common.{arith, ◌≡◌, ◌∙◌, ◌∷◌, ◌++◌, [], ℕ, List, length, ap, subst}
use Rattle.term_core.specs.declared.ids.Lit.{Lit}
use Rattle.clause_store.specs.declared.entry.StoredClause.{StoredClause}
use Rattle.clause_store.specs.declared.pair.Pair.{Pair}
use Rattle.clause_store.specs.Watching.{IsPairOf, IsEnteredIfTwo}
use Rattle.clause_store.proofs.Entering.{watched_more}
use Rattle.clause_store.proofs.watched.Watched.add.Goals as goal

pub returns-in-Ok-clause-watched : goal.returns-in-Ok-clause-watched
returns-in-Ok-clause-watched c =
    let s = c.args.self.now in
    let entries = c.push_reserved.ensures.items ∙ ap (λ (es : List StoredClause). es ++ c.args.entry ∷ []) c.reserve.ensures.items in
    let pairs = c.push_reserved-in-Ok.ensures.items ∙ ap (λ (ps : List Pair). ps ++ c.pair_of-pair.result ∷ []) c.reserve-2.ensures.items in
    let number : c.len.result ≡ length s.entries.items = omega (arith, c.len.ensures, c.reserve.new.self.ok.0, ap length c.reserve.ensures.items) in
    watched_more s _ c.args.entry c.pair_of-pair.result c.requires entries pairs (subst (λ (xs : List Lit). IsPairOf xs c.pair_of-pair.result) c.deref.ensures.value c.pair_of-pair.ensures)
    (subst (λ (n : ℕ). IsEnteredIfTwo s.index c.pair_of-pair.result n c.enter_two.new.index) number c.in-Ok.ensures.ok)
