-- Room within a limit on terms and names, or with none.
use Rattle.std.proofs.Common.{◌≡◌, ◌≤◌, ℕ, List, length, Option, Some, None, refl, ap, ap₂, arith, le-leb}
use Rattle.std.specs.Prelude.{Ok, Bool, ◌&&◌}
use Rattle.std.specs.List.{IsDistinct}
use Rattle.std.proofs.lemmas.Map.Made.{is_member-Decides, length-le_from_is_member}
use Rattle.spec_text.specs.declared.Fault.TheVariants.{Full}
use Rattle.spec_text.specs.Answers.{require}
use Rattle.spec_sorts.specs.Terms.{Term, terms_of, same_term}
use Rattle.spec_sorts.specs.Signatures.{Signature}
use Rattle.spec_sorts.specs.Subterms.{subterms_of}
use Rattle.spec_sorts.specs.Subsets.{AreAmong}
use Rattle.spec_sorts.proofs.LeastSubterms.{least_of}
use Rattle.spec_sorts.proofs.SameTerms.{terms_decide, terms_equivalence}
use Rattle.spec_checking.specs.Reading.{room}
use Rattle.spec_proof_texts.proofs.Known.{AreHeld, held_subterms}

-- the number is within the limit, where there is one
abbrev pub IsWithin : Option ℕ → ℕ → Type 0
IsWithin None n = Unit {0}
IsWithin (Some limit) n = n ≤ limit

pub no_more : (limit : Option ℕ) (m n : ℕ) → m ≤ n → IsWithin limit n → IsWithin limit m
no_more None m n le h = tt
no_more (Some limit) m n le h = omega (arith, le, h)

-- different terms that are among others are no more than these
no_longer : (us vs : List Term) → IsDistinct same_term us → AreAmong us vs → length us ≤ length vs
no_longer us vs distinct among =
    length-le_from_is_member terms_equivalence us vs distinct (λ t m. (is_member-Decides terms_decide vs t).1 (among t ((is_member-Decides terms_decide us t).0 m)))

-- terms whose subterms are among others have room where these have, and the names
pub has_place : (limit : Option ℕ) (at : ℕ) (s : Signature) (ts others : List Term) → AreHeld others (terms_of ts) → IsWithin limit (length s) → IsWithin limit (length others) → room limit at s ts ≡ Ok tt
unfolding require
has_place None at s ts others held names terms = refl
has_place (Some limit) at s ts others held names terms =
    let few : length (subterms_of ts) ≤ limit = omega (arith, no_longer (subterms_of ts) others (least_of ts).distinct (held_subterms others ts held), terms) in
    ap (λ b. require b at Full) (ap₂ (λ (a b : Bool). a && b) (le-leb (length s) limit names) (le-leb (length (subterms_of ts)) limit few))
