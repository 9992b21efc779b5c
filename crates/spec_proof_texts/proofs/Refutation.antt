-- Each line of the refutation is right after those before it.
use Rattle.std.proofs.Common.{◌≡◌, List, [], ◌∷◌, Some, refl, sym, ap, subst, arith}
use Rattle.std.specs.Prelude.{codes}
use Rattle.std.proofs.lemmas.List.Elements.{All-nil}
use Rattle.spec_text.specs.Trees.{none}
use Rattle.spec_text.proofs.Members.{first, later}
use Rattle.spec_sorts.specs.Terms.{Not, Truth, Term, constant, negated, sort_of}
use Rattle.spec_sorts.specs.Signatures.{declared, known_as}
use Rattle.spec_rules.specs.Examples.{p}
use Rattle.spec_proofs.specs.declared.Rule.TheVariants as rules
use Rattle.spec_commands.specs.Stack.{signature_of, terms_asserted}
use Rattle.spec_commands.specs.Checks.{asked}
use Rattle.spec_checking.specs.Examples.{the_check, known}
use Rattle.spec_checking.specs.ProofTexts.{asserted_there}
use Rattle.spec_checking.specs.OnLiterals.{proofs_on_literals}
use Rattle.spec_checking.proofs.Verdicts.{units_resolve}
use Rattle.spec_proof_texts.specs.Lines.{symbol, applied, no_items, item, assumed, assumes}
use Rattle.spec_proof_texts.specs.Meaning.{AreRightLines, IsTold, bare_term, nothing_told, with_assume, with_step}
use Rattle.spec_proof_texts.specs.Examples.{refutation, refutation_told}

-- the script declares p
pub found : known_as known.scope (codes "p") ≡ Some (declared (constant (codes "p") Truth))
unfolding proofs_on_literals
found = refl

-- p is printed so, and its negation is in place
alone : IsTold known.scope (nothing_told (negated p ∷ [])) (symbol (codes "p")) p
alone = ap bare_term found

negation : IsTold known.scope (with_assume (nothing_told (negated p ∷ [])) (p ∷ [])) (applied Not (item (symbol (codes "p")) no_items)) (negated p)
unfolding sort_of
negation = (
  p ∷ [],
  (alone, tt),
  record {
    some = λ e. cc;
    takes = record { known = tt; takes = refl; linear = refl };
    term = refl;
    there = first (negated p) [];
    low = omega arith;
  },
)

of_truth : (sort_of p ≡ Truth) × (sort_of (negated p) ≡ Truth)
unfolding sort_of
of_truth = (refl, refl)

-- each line is right after those before it
right_from_both : AreRightLines known.scope (p ∷ negated p ∷ []) refutation
right_from_both =
    let none_told = nothing_told (negated p ∷ []) in
    let one_told = with_assume none_told (p ∷ []) in
    let two_told = with_assume one_told (negated p ∷ []) in
    record {
      placed = negated p ∷ [];
      few = omega arith;
      end = refutation_told;
      right = (
        one_told,
        (p, record { number = refl; told = alone; sort = of_truth.0; there = first p (negated p ∷ []) }, refl),
        (
          two_told,
          (negated p, record { number = refl; told = negation; sort = of_truth.1; there = later p (negated p ∷ []) (negated p) (first (negated p) []) }, refl),
          (
            with_step two_told [],
            (record { clause = []; number = refl; literals = tt; sorts = All-nil (λ t. sort_of t ≡ Truth); premises = (p ∷ []) ∷ (negated p ∷ []) ∷ []; earlier = refl; given = tt; right = units_resolve }, refl),
            refl,
          ),
        ),
      );
      earlier = assumes 1 (symbol (codes "p")) ∷ assumes 2 (applied Not (item (symbol (codes "p")) no_items)) ∷ [];
      step = record { number = 1; literals = []; rule = rules.Resolution; premises = assumed 1 ∷ assumed 2 ∷ []; arguments = none };
      last = refl;
      empty = refl;
    }

pub right : AreRightLines (signature_of the_check.stack) (terms_asserted (asked the_check)) refutation
right = subst (λ (ts : List Term). AreRightLines known.scope ts refutation) (sym asserted_there) right_from_both
