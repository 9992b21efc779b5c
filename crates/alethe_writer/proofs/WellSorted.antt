-- What is printed for a clause of a log is well sorted over a script's symbols.
use Rattle.std.proofs.Common.{◌≡◌, ◌⊎◌, inl, inr, ℕ, true, List, [], Contains, subst}
use Rattle.std.proofs.lemmas.Bool.{and_parts}
use Rattle.spec_text.proofs.Members.{cases, none as no_member}
use Rattle.spec_sorts.specs.Terms.{Symbol, Term, Terms, app, nil, cons, list_of, sorts_of, head_takes, is_sorted, are_sorted}
use Rattle.spec_sorts.specs.Subsets.{arguments_of}
use Rattle.spec_sorts.specs.WellSorted.{AllHeads, AllHeadsIn, IsHeadOver, IsWellSorted}
use Rattle.spec_derivations.specs.Derivations.{Derivation, DependsOn, conclusion_at}
use Rattle.spec_proof_texts.specs.Plans.{IsPrinted, in_clause, as_argument}

module _ (symbols : List Symbol) where
  -- each of a well-sorted term's arguments is well sorted
  argument_sorted : (ts : Terms) (u : Term) → are_sorted [] ts ≡ true → AllHeadsIn (IsHeadOver symbols) ts → Contains (list_of ts) u → IsWellSorted symbols [] u
  unfolding are_sorted AllHeadsIn
  argument_sorted nil u e o c = absurd (no_member u c)
  argument_sorted (cons t ts) u e o c = go (cases t (list_of ts) u c) (argument_sorted ts u (and_parts (is_sorted [] t) (are_sorted [] ts) e).1 o.1)
    where
      go : (t ≡ u) ⊎ Contains (list_of ts) u → (Contains (list_of ts) u → IsWellSorted symbols [] u) → IsWellSorted symbols [] u
      go (inl same) rest = subst (IsWellSorted symbols []) same (record { sorted = (and_parts (is_sorted [] t) (are_sorted [] ts) e).0; heads = o.0 })
      go (inr d) rest = rest d

  pub arguments_sorted : (t u : Term) → IsWellSorted symbols [] t → Contains (arguments_of t) u → IsWellSorted symbols [] u
  unfolding is_sorted AllHeads
  arguments_sorted (app h ts) u w c = argument_sorted ts u (and_parts (head_takes [] h (sorts_of ts)) (are_sorted [] ts) w.sorted).1 w.heads.1 c

  -- so is each term that is printed, where those of all clauses are
  pub printed_sorted : (d : Derivation) (n : ℕ) → ((m : ℕ) (u : Term) → DependsOn d n m → Contains (conclusion_at d m) u → IsWellSorted symbols [] u) → (u : Term) → IsPrinted d n u → IsWellSorted symbols [] u
  printed_sorted d n each u (in_clause m _ on c) = each m u on c
  printed_sorted d n each u (as_argument t _ p c) = arguments_sorted t u (printed_sorted d n each t p) c
