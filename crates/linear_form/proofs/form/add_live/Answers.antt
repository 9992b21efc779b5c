-- One entry after the other comes, unless it is dead.
use Rattle.std.proofs.Common.{◌++◌, ◌∷◌, [], map, ap, sym, ◌∙◌, append_assoc, take}
use Rattle.linear_form.specs.Entries.{live, pair_view}
use Rattle.linear_form.proofs.Steps.{live_taken}
use Rattle.linear_form.proofs.form.add_live.Goals as goal

pub entries-preserved : goal.entries-preserved
entries-preserved c =
    let p = c.index-entries-at.result in
    let old = map pair_view c.args.variables.now.items in
    record {
      so_far = c.in_ok-push_live.ensures ∙ ap (λ l. l ++ live (p ∷ [])) c.entries.invariant.so_far ∙ append_assoc old (live (take c.entries.at c.args.entries.now)) (live (p ∷ []))
          ∙ ap (λ l. old ++ l) (sym (live_taken c.args.entries.now c.entries.at p c.entries-test.true c.index-entries-at.is));
    }
