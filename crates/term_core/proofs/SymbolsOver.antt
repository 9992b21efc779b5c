-- Symbols over sorts, and the first of them over the first sorts.
use Rattle.std.proofs.Common.{◌≡◌, ℕ, zero, suc, ◌<◌, inl, inr, List, [], ◌∷◌, ◌++◌, length, take, get_or, All, Contains, refl, sym, ap, ◌∙◌, subst, arith, length-append}
use Rattle.std.proofs.lemmas.List.{get_or_append_left, get_or_default, length-take}
use Rattle.std.proofs.lemmas.List.Elements.{All-contains, All-take, Contains-get_or}
use Rattle.spec_text.specs.Bytes.{Name}
use Rattle.spec_text.proofs.Members.{none, cases, to_image, from_image}
use Rattle.term_core.specs.declared.sorts.Rank.{Rank}
use Rattle.term_core.specs.declared.sorts.Sort.{Sort as TableSort}
use Rattle.term_core.specs.declared.sorts.Sort.TheVariants.{Declared as declared_sort}
use Rattle.term_core.specs.NameLists.{AreApart, HaveNoTwice}
use Rattle.term_core.specs.Symbols.{HasSortIn, sort_meant, no_symbol, symbol_of, symbols_of, IsRank, AreRanks}
use Rattle.term_core.specs.Uses.{IsSortOver, IsSymbolOver, AreSymbolsOver}
use Rattle.term_core.proofs.NamesApart.{AreApart-take}
use Rattle.term_core.proofs.SymbolsNamed.{symbols_long, symbol_by, symbols_more}

module _ (sorts : List Name) where
  -- a sort that is there is over the names
  pub meant_over : (s : TableSort) → HasSortIn sorts s → IsSortOver sorts (sort_meant sorts s)
  meant_over (declared_sort k) there = Contains-get_or sorts k.0 [] there
  meant_over _ there = tt

  rank_over : (n : Name) (r : Rank) → IsRank sorts r → IsSymbolOver sorts (symbol_of sorts n r.parameters.items r.result)
  rank_over n r there = record {
    parameters = λ s c.
        let x = from_image (sort_meant sorts) r.parameters.items s c in
        subst (IsSortOver sorts) x.2 (meant_over x.0 (All-contains (HasSortIn sorts) r.parameters.items x.0 there.parameters x.1));
    result = meant_over r.result there.result;
  }

  -- names with ranks are symbols over the sorts
  pub symbols_over : (names : List Name) (ranks : List Rank) → ((k : ℕ) (r : Rank) → k < length ranks → IsRank sorts (get_or ranks k r)) → AreSymbolsOver sorts (symbols_of sorts names ranks)
  symbols_over [] ranks each f c = absurd (none f c)
  symbols_over (n ∷ names) [] each f c = absurd (none f c)
  symbols_over (n ∷ names) (r ∷ ranks) each f c = elim (cases (symbol_of sorts n r.parameters.items r.result) (symbols_of sorts names ranks) f c) [
    | inl e ↦ subst (IsSymbolOver sorts) e (rank_over n r (each 0 r (omega arith)))
    | inr rest ↦ symbols_over names ranks (λ k q lt. each (suc k) q (omega (arith, lt))) f rest
  ]

  -- the first names with the first ranks are the first symbols
  pub symbols_first : (m : ℕ) (names : List Name) (ranks : List Rank) → symbols_of sorts (take m names) (take m ranks) ≡ take m (symbols_of sorts names ranks)
  symbols_first zero [] ranks = refl
  symbols_first zero (n ∷ names) [] = refl
  symbols_first zero (n ∷ names) (r ∷ ranks) = refl
  symbols_first (suc m) [] [] = refl
  symbols_first (suc m) [] (r ∷ ranks) = refl
  symbols_first (suc m) (n ∷ names) [] = refl
  symbols_first (suc m) (n ∷ names) (r ∷ ranks) = ap (λ ss. symbol_of sorts n r.parameters.items r.result ∷ ss) (symbols_first m names ranks)

-- what the first items have, has its number among them
pub number_first : {T : Type 0} (nothing : T) (xs ys more : List T) (k : ℕ) → ys ≡ xs ++ more → AreApart nothing ys → k < length ys → Contains xs (get_or ys k nothing) → k < length xs
number_first nothing xs ys more k e apart within c =
    let same : get_or ys c.0 nothing ≡ get_or ys k nothing = ap (λ l. get_or l c.0 nothing) e ∙ get_or_append_left xs more nothing c.0 c.1 ∙ get_or_default xs c.0 nothing (get_or ys k nothing) c.1 ∙ c.2 in
    let low : c.0 < length ys = omega (arith, c.1, ap length e, length-append xs more) in
    subst (λ j. j < length xs) (apart c.0 k low within same) c.1

-- sorts of which no name is there twice, and the first of them
module _ (sorts all more : List Name) (e : all ≡ sorts ++ more) (apart : HaveNoTwice all) where
  -- a sort that is over the first names is one of theirs
  pub sort_first : (s : TableSort) → HasSortIn all s → IsSortOver sorts (sort_meant all s) → HasSortIn sorts s
  sort_first (declared_sort k) within over = number_first [] sorts all more k.0 e apart within over
  sort_first _ within over = tt

  rank_first : (n : Name) (r : Rank) → IsRank all r → IsSymbolOver sorts (symbol_of all n r.parameters.items r.result) → IsRank sorts r
  rank_first n r there over = record {
    parameters = λ k d lt.
        let s = get_or r.parameters.items k d in
        sort_first s (there.parameters k d lt) (over.parameters (sort_meant all s) (to_image (sort_meant all) r.parameters.items s (Contains-get_or r.parameters.items k d lt)));
    result = sort_first r.result there.result over.result;
  }

  ranks_first : (names : List Name) (ranks : List Rank) → length names ≡ length ranks → All (IsRank all) ranks → AreSymbolsOver sorts (symbols_of all names ranks) → All (IsRank sorts) ranks
  ranks_first names ranks long each over k r lt =
      let low : k < length names = omega (arith, lt, long) in
      let q = get_or ranks k r in
      rank_first (get_or names k []) q (each k r lt) (subst (IsSymbolOver sorts) (symbol_by all names ranks k r long low)
      (over (get_or (symbols_of all names ranks) k no_symbol) (Contains-get_or (symbols_of all names ranks) k no_symbol (omega (arith, low, symbols_long all names ranks long)))))

  -- the first names and ranks stand for symbols over the first sorts
  pub first_ranks : (m : ℕ) (names : List Name) (ranks : List Rank) → HaveNoTwice sorts → AreRanks all names ranks → AreSymbolsOver sorts (take m (symbols_of all names ranks)) → AreRanks sorts (take m names) (take m ranks)
  first_ranks m names ranks once a over =
      let long : length (take m names) ≡ length (take m ranks) = omega (arith, a.long, length-take m names, length-take m ranks) in
      record {
        sorts_apart = once;
        names_apart = AreApart-take [] names m a.names_apart;
        long = long;
        each = ranks_first (take m names) (take m ranks) long (All-take (IsRank all) m ranks a.each) (subst (AreSymbolsOver sorts) (sym (symbols_first all m names ranks)) over);
      }

  -- and those are the first symbols
  pub first_symbols : (m : ℕ) (names : List Name) (ranks : List Rank) → AreRanks sorts (take m names) (take m ranks) → symbols_of sorts (take m names) (take m ranks) ≡ take m (symbols_of all names ranks)
  first_symbols m names ranks a =
      sym (symbols_more sorts more (take m names) (take m ranks) a.each) ∙ ap (λ ss. symbols_of ss (take m names) (take m ranks)) (sym e) ∙ symbols_first all m names ranks
