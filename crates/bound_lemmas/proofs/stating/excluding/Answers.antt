-- The two literals are the reasons.
use Rattle.std.proofs.Common.{[], ◌∷◌, ◌∙◌}
use Rattle.bound_lemmas.proofs.Reasons.{both_of_atoms, both_held, one_over_one, where_some, where_none}
use Rattle.bound_lemmas.proofs.stating.excluding.Goals as goal

pub excluding_all-requires : goal.excluding_all-requires
excluding_all-requires g c = (c.requires.0, both_of_atoms _ _ g.terms c.args.table.now c.requires.1.0 c.requires.1.1)

pub returns-clause-clash : goal.returns-clause-clash
returns-clause-clash g c =
    where_some _ _ c.excluding_all.result (λ step clash. clash (c.args.pair.first ∷ c.args.pair.second ∷ []) (both_held _ _)) c.excluding_all.ensures.clash

pub returns-clause-none : goal.returns-clause-none
returns-clause-none g c =
    where_none c.excluding_all.result
    (λ none. (none.0, none.1, record { one = c.of.result; is_one = c.of.ensures ∙ one_over_one; refused = none.2 })) c.excluding_all.ensures.none
