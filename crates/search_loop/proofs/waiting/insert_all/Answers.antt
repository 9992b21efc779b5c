-- Atom by atom.
use Rattle.std.proofs.Common.{◌<◌, ◌∙◌, ◌+◌, ◌++◌, [], ◌∷◌, ◌≡◌, length, get_or, take, List, Bool, true, set, refl, subst, sym, ap, arith}
use Rattle.std.proofs.lemmas.List.{length-set, append-nil, append_assoc, take_more}
use Rattle.term_core.specs.declared.ids.TermId.{TermId}
use Rattle.term_clauses.specs.SpokenTerms.{no_id}
use Rattle.search_loop.specs.Waiting.{AreWaiting}
use Rattle.search_loop.proofs.SearchWaiting.{waiting_more}
use Rattle.search_loop.proofs.waiting.insert_all.Goals as goal

pub loop-atom-init : goal.loop-atom-init
loop-atom-init c = record { size = refl; waiting = λ before held h. subst (λ (xs : List TermId). AreWaiting xs held c.args.order.now) (sym (append-nil before)) h }

pub loop-atom-preserved : goal.loop-atom-preserved
loop-atom-preserved c =
    let atoms = c.args.atoms.now in
    let k = c.loop-atom.atom-index in
    let a : TermId = get_or atoms k no_id in
    let known : a.0 < length c.loop-atom.order = omega (arith, c.requires.known k no_id c.loop-atom-test.true, c.loop-atom.invariant.size) in
    record {
      size = ap length c.insert.ensures ∙ length-set c.loop-atom.order a.0 _ ∙ c.loop-atom.invariant.size;
      waiting = λ before held h.
          let longer : (before ++ take k atoms) ++ a ∷ [] ≡ before ++ take (k + 1) atoms = append_assoc before (take k atoms) (a ∷ []) ∙ ap (λ (xs : List TermId). before ++ xs) (sym (take_more atoms k no_id c.loop-atom-test.true)) in
          subst (λ (ws : List Bool). AreWaiting (before ++ take (k + 1) atoms) held ws) (sym c.insert.ensures)
          (subst (λ (xs : List TermId). AreWaiting xs held (set c.loop-atom.order a.0 true)) longer (waiting_more (before ++ take k atoms) held a c.loop-atom.order known (c.loop-atom.invariant.waiting before held h)));
    }
