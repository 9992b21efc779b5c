-- The different subterms of terms, and whether there is room for them.
use Rattle.std.specs.Prelude.{ℕ, Bool, false, ◌&&◌, ◌||◌, List, [], ◌∷◌, length, nat_le, if◌then◌else◌}
use Rattle.spec_sorts.specs.Terms.{Term, Terms, app, nil, cons, same_term}
use Rattle.spec_sorts.specs.Signatures.{Signature}

-- whether a term is one of these
abbrev pub has_term : List Term → Term → Bool
has_term [] t = false
has_term (u ∷ us) t = same_term u t || has_term us t

-- a term more, where it is none of these
abbrev pub with_term : List Term → Term → List Term
with_term us t = if has_term us t then us else t ∷ us

unfoldable mutual
  -- the list with the subterms of a term, the term among them, each once
  pub with_subterms : List Term → Term → List Term
  with_subterms seen (app h ts) = with_term (with_all_subterms seen ts) (app h ts)

  -- the list with the subterms of terms
  pub with_all_subterms : List Term → Terms → List Term
  with_all_subterms seen nil = seen
  with_all_subterms seen (cons t ts) = with_all_subterms (with_subterms seen t) ts

-- the different subterms of terms
abbrev pub subterms_of : List Term → List Term
subterms_of [] = []
subterms_of (t ∷ ts) = with_subterms (subterms_of ts) t

-- there are no more names, and terms no more different subterms all together, than the limit allows
abbrev pub has_room : ℕ → Signature → List Term → Bool
has_room limit s ts = nat_le (length s) limit && nat_le (length (subterms_of ts)) limit
