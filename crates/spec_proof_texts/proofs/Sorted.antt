-- Well-sorted terms can be printed.
use Rattle.std.proofs.Common.{◌≡◌, ℕ, true, ◌&&◌, List, [], ◌∷◌, sym, ap, ◌∙◌}
use Rattle.std.proofs.lemmas.Bool.{false≢true, and_parts}
use Rattle.spec_sorts.specs.Terms.{Sort, Head, True, False, Not, And, Or, Xor, Implies, Equal, Ite, Minus, Plus, Times, Divide, Less, AtMost, Literal, Apply, Parameter, Term, Terms, app, nil, cons, sort_of, second_sort, head_takes, sorts_of, is_sorted, are_sorted}
use Rattle.spec_sorts.specs.Signatures.{Signature, symbols_in}
use Rattle.spec_sorts.specs.WellSorted.{AllHeads, AllHeadsIn, IsHeadOver, IsWellSorted}
use Rattle.spec_sorts.proofs.General.{sorts_listed}
use Rattle.spec_models.specs.Meaning.{IsSortIn}
use Rattle.spec_proof_texts.specs.Meaning.{IsKnownHead}
use Rattle.spec_proof_texts.specs.Printable.{IsPrintable, HasText, IsReadable}
use Rattle.spec_proof_texts.specs.ReadBack.{AreScriptNames}

module _ (g : Signature) (own : AreScriptNames g) where
  mutual
    unfolding sort_of is_sorted are_sorted AllHeads AllHeadsIn

    -- the signature has the sort of a term
    pub sort_there : (t : Term) → is_sorted [] t ≡ true → AllHeads (IsHeadOver (symbols_in g)) t → IsSortIn g (sort_of t)
    sort_there (app h ts) e o = go h o.0 (and_parts (head_takes [] h (sorts_of ts)) (are_sorted [] ts) e).0 (second_there ts (and_parts (head_takes [] h (sorts_of ts)) (are_sorted [] ts) e).1 o.1)
      where
        none_takes : (ss : List Sort) (k : ℕ) (s : Sort) → head_takes [] (Parameter k s) ss ≡ true → ⊥
        none_takes [] k s e = false≢true e
        none_takes (x ∷ ss) k s e = false≢true e

        go : (h : Head) → IsHeadOver (symbols_in g) h → head_takes [] h (sorts_of ts) ≡ true → IsSortIn g (second_sort ts) → IsSortIn g (sort_of (app h ts))
        go Ite o takes second = second
        go (Apply f) o takes second = (own.symbols f o).result
        go (Parameter k s) o takes second = absurd (none_takes (sorts_of ts) k s takes)
        go True o takes second = tt
        go False o takes second = tt
        go Not o takes second = tt
        go And o takes second = tt
        go Or o takes second = tt
        go Xor o takes second = tt
        go Implies o takes second = tt
        go Equal o takes second = tt
        go Minus o takes second = tt
        go Plus o takes second = tt
        go Times o takes second = tt
        go Divide o takes second = tt
        go Less o takes second = tt
        go AtMost o takes second = tt
        go (Literal q) o takes second = tt

    second_there : (ts : Terms) → are_sorted [] ts ≡ true → AllHeadsIn (IsHeadOver (symbols_in g)) ts → IsSortIn g (second_sort ts)
    second_there nil e o = tt
    second_there (cons t nil) e o = tt
    second_there (cons t (cons u us)) e o =
        sort_there u (and_parts (is_sorted [] u) (are_sorted [] us) (and_parts (is_sorted [] t) (is_sorted [] u && are_sorted [] us) e).1).0 o.1.0

  head_known : (h : Head) → IsHeadOver (symbols_in g) h → HasText h → IsKnownHead g h
  head_known (Apply f) o e = own.found f o
  head_known (Literal q) o e = e
  head_known True o e = tt
  head_known False o e = tt
  head_known Not o e = tt
  head_known And o e = tt
  head_known Or o e = tt
  head_known Xor o e = tt
  head_known Implies o e = tt
  head_known Equal o e = tt
  head_known Minus o e = tt
  head_known Plus o e = tt
  head_known Times o e = tt
  head_known Divide o e = tt
  head_known Less o e = tt
  head_known AtMost o e = tt
  head_known Ite o e = tt
  head_known (Parameter k s) o e = tt

  pub printable : (t : Term) → IsWellSorted (symbols_in g) [] t → IsReadable t → IsPrintable g t
  unfolding is_sorted AllHeads
  printable (app h ts) w r = record {
    takes = record {
      known = head_known h w.heads.0 r.text;
      takes = ap (head_takes [] h) (sym (sorts_listed ts)) ∙ (and_parts (head_takes [] h (sorts_of ts)) (are_sorted [] ts) w.sorted).0;
      linear = r.linear;
    };
    sort = sort_there (app h ts) w.sorted w.heads;
  }
