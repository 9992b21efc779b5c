-- What is kept stays kept.
use Rattle.std.proofs.Common.{◌≡◌, Bool, true, false, refl, ap, ◌∙◌}
use Rattle.std.specs.Prelude.{if◌then◌else◌}
use Rattle.std.proofs.lemmas.Bool.{false≢true}
use Rattle.spec_text.specs.Trees.{Tree, Trees, none, more}
use Rattle.spec_trims.specs.Trims.{some_rests_on, is_empty_step, kept_before, trimmed, AreNeeded}

-- by the tests on the first command
pub whole : (ts : Trees) → trimmed (trimmed ts) ≡ trimmed ts
unfolding trimmed
whole none = refl
whole (more t ts) = by (is_empty_step t) refl (whole ts)
  where
    by : (q : Bool) → is_empty_step t ≡ q → trimmed (trimmed ts) ≡ trimmed ts → trimmed (if q then more t none else kept_before t (trimmed ts)) ≡ (if q then more t none else kept_before t (trimmed ts))
    by true e w = ap (λ (q : Bool). if q then more t none else kept_before t (trimmed none)) e
    by false e w = at (some_rests_on (trimmed ts) t) refl
      where
        at : (r : Bool) → some_rests_on (trimmed ts) t ≡ r → trimmed (if r then more t (trimmed ts) else trimmed ts) ≡ (if r then more t (trimmed ts) else trimmed ts)
        at false m = w
        at true m = (λ i. if e i then more t none else kept_before t (w i)) ∙ ap (λ r. if r then more t (trimmed ts) else trimmed ts) m

-- each is kept for one after it, but for the last
one_more : (t : Tree) (ts : Trees) → some_rests_on ts t ≡ true → AreNeeded ts → AreNeeded (more t ts)
one_more t none rests h = absurd (false≢true rests)
one_more t (more u us) rests h = (rests, h)

pub needed : (ts : Trees) → AreNeeded (trimmed ts)
unfolding trimmed
needed none = tt
needed (more t ts) = by (is_empty_step t) refl (some_rests_on (trimmed ts) t) refl (needed ts)
  where
    by : (q : Bool) → is_empty_step t ≡ q → (r : Bool) → some_rests_on (trimmed ts) t ≡ r → AreNeeded (trimmed ts) → AreNeeded (if q then more t none else if r then more t (trimmed ts) else trimmed ts)
    by true e r m h = e
    by false e true m h = one_more t (trimmed ts) m h
    by false e false m h = h
