-- That the first clause comes by a chain, and no copy does.
use Rattle.std.proofs.Common.{inl, sym, [], ◌∷◌, ◌++◌, ◌∙◌}
use Rattle.std.proofs.lemmas.List.Elements.{All-contains, All-from_recursion}
use Rattle.spec_derivations.specs.Inputs.{IsInput}
use Rattle.spec_derivations.specs.ExactChains.{AreAlike}
use Rattle.spec_derivations.specs.Examples.{asserting, eight}
use Rattle.spec_derivations.specs.Copies.{idle_or_not, given}
use Rattle.spec_derivations.proofs.Exact.{learned_alike}
use Rattle.spec_derivations.proofs.Unmixed.{is_idle, idle_is, is_idle_by, given_alike, input_alike}
use Rattle.spec_derivations.proofs.FirstChain.{not_both_comes}
use Rattle.spec_derivations.proofs.Copied.{copy_is_new, new_at_first}
use Rattle.spec_derivations.proofs.chains.copies_come_by_no_chain.Goals as goal

pub returns-clause-first : goal.returns-clause-first
returns-clause-first c = not_both_comes

pub returns-clause-copy_is_new : goal.returns-clause-copy_is_new
returns-clause-copy_is_new c = copy_is_new

pub returns-clause-no_copy : goal.returns-clause-no_copy
returns-clause-no_copy c learned chains d d_in l m l_in is m_in =
    let alike = All-contains (AreAlike is_idle) learned d (c.resolvents_are_alike.ensures.all given is_idle given_alike learned chains) d_in in
    idle_is m.atom (sym (alike l m l_in m_in) ∙ is_idle_by l.atom (inl is))

pub returns-clause-new_at_first : goal.returns-clause-new_at_first
returns-clause-new_at_first c = new_at_first

pub returns-clause-none_learned : goal.returns-clause-none_learned
returns-clause-none_learned c d learned bare h e e_in l m l_in is m_in =
    let each = learned_alike is_idle (IsInput (asserting (eight ++ idle_or_not ∷ [])) d) (input_alike d h.right bare) learned h.exact in
    let alike = All-contains (AreAlike is_idle) learned e (All-from_recursion (AreAlike is_idle) learned each) e_in in
    idle_is m.atom (sym (alike l m l_in m_in) ∙ is_idle_by l.atom (inl is))
