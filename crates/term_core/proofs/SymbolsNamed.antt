-- Symbols by their names, and names with ranks as symbols.
use Rattle.std.proofs.Common.{◌≡◌, ℕ, zero, suc, ◌<◌, Bool, true, false, ◌||◌, if◌then◌else◌, List, [], ◌∷◌, ◌++◌, length, Some, None, get_or, refl, sym, ap, ◌∙◌, subst, true≢false, arith}
use Rattle.std.specs.Str.{bytes_eq}
use Rattle.std.proofs.lemmas.List.{length-map}
use Rattle.spec_text.specs.Bytes.{Name, among}
use Rattle.spec_sorts.specs.Terms.{Symbol}
use Rattle.term_core.specs.declared.sorts.Rank.{Rank}
use Rattle.term_core.specs.NameLists.{HaveNoTwice}
use Rattle.term_core.specs.Symbols.{SymbolsView, no_symbol, symbol_named, names_of, symbol_of, symbols_of, IsRank, AreRanks, AreDeclared}
use Rattle.term_core.proofs.NamesApart.{same_bytes, bytes_same}
use Rattle.term_core.proofs.TermsExtend.{sort_meant-more, sorts_meant-more}

-- a name that is among no symbol's is no symbol's
pub none_named : (symbols : List Symbol) (n : Name) → among (names_of symbols) n ≡ false → symbol_named symbols n ≡ None
none_named [] n h = refl
none_named (s ∷ symbols) n h = go (bytes_eq s.name n) refl (none_named symbols n)
  where
    go : (b : Bool) → bytes_eq s.name n ≡ b → (among (names_of symbols) n ≡ false → symbol_named symbols n ≡ None) → symbol_named (s ∷ symbols) n ≡ None
    go true e rest = absurd (true≢false (sym (ap (λ c. c || among (names_of symbols) n) e) ∙ h))
    go false e rest = ap (λ c. if c then Some s else symbol_named symbols n) e ∙ rest (sym (ap (λ c. c || among (names_of symbols) n) e) ∙ h)

-- a name that no symbol has is none of the symbols' names
pub absent_of : (symbols : List Symbol) (n : Name) → symbol_named symbols n ≡ None → among (names_of symbols) n ≡ false
absent_of [] n h = refl
absent_of (s ∷ symbols) n h = go (bytes_eq s.name n) refl (absent_of symbols n)
  where
    go : (b : Bool) → bytes_eq s.name n ≡ b → (symbol_named symbols n ≡ None → among (names_of symbols) n ≡ false) → among (names_of (s ∷ symbols)) n ≡ false
    go true e rest = absurd (is_some (sym (ap (λ c. if c then Some s else symbol_named symbols n) e) ∙ h))
      where
        is_some : Some s ≡ None → ⊥
        is_some f = cc
    go false e rest = ap (λ c. c || among (names_of symbols) n) e ∙ rest (sym (ap (λ c. if c then Some s else symbol_named symbols n) e) ∙ h)

-- the symbol of a number is the first of its name
pub first_named : (symbols : List Symbol) (k : ℕ) → HaveNoTwice (names_of symbols) → k < length symbols → symbol_named symbols (get_or symbols k no_symbol).name ≡ Some (get_or symbols k no_symbol)
first_named [] k apart within = absurd (omega (arith, within))
first_named (s ∷ symbols) zero apart within = ap (λ c. if c then Some s else symbol_named symbols s.name) (bytes_same s.name s.name refl)
first_named (s ∷ symbols) (suc k) apart within =
    go (bytes_eq s.name t.name) refl (first_named symbols k (λ i j in_i in_j e. omega (arith, apart (suc i) (suc j) (omega (arith, in_i)) (omega (arith, in_j)) e)) (omega (arith, within)))
  where
    t : Symbol
    t = get_or symbols k no_symbol

    low : suc k < length (names_of (s ∷ symbols))
    low = omega (arith, within, length-map symbols (λ (u : Symbol). u.name))

    here : (symbols : List Symbol) (k : ℕ) → k < length symbols → get_or (names_of symbols) k [] ≡ (get_or symbols k no_symbol).name
    here [] k lt = absurd (omega (arith, lt))
    here (u ∷ us) zero lt = refl
    here (u ∷ us) (suc k) lt = here us k (omega (arith, lt))

    go : (b : Bool) → bytes_eq s.name t.name ≡ b → symbol_named symbols t.name ≡ Some t → symbol_named (s ∷ symbols) t.name ≡ Some t
    go true e rest = absurd (zero≢suc (apart 0 (suc k) (omega arith) low (same_bytes s.name t.name e ∙ sym (here symbols k (omega (arith, within))))))
      where
        zero≢suc : 0 ≡ suc k → ⊥
        zero≢suc f = omega (arith, f)
    go false e rest = ap (λ c. if c then Some s else symbol_named symbols t.name) e ∙ rest

module _ (sorts : List Name) where
  pub names_back : (names : List Name) (ranks : List Rank) → length names ≡ length ranks → names_of (symbols_of sorts names ranks) ≡ names
  names_back [] [] long = refl
  names_back [] (r ∷ ranks) long = absurd (omega (arith, long))
  names_back (n ∷ names) [] long = absurd (omega (arith, long))
  names_back (n ∷ names) (r ∷ ranks) long = ap (λ ns. n ∷ ns) (names_back names ranks (omega (arith, long)))

  -- a name that no symbol has is new
  pub new_name : (names : List Name) (ranks : List Rank) (n : Name) → length names ≡ length ranks → symbol_named (symbols_of sorts names ranks) n ≡ None → among names n ≡ false
  new_name names ranks n long h = ap (λ ns. among ns n) (sym (names_back names ranks long)) ∙ absent_of (symbols_of sorts names ranks) n h

  pub symbols_long : (names : List Name) (ranks : List Rank) → length names ≡ length ranks → length (symbols_of sorts names ranks) ≡ length names
  symbols_long [] [] long = refl
  symbols_long [] (r ∷ ranks) long = absurd (omega (arith, long))
  symbols_long (n ∷ names) [] long = absurd (omega (arith, long))
  symbols_long (n ∷ names) (r ∷ ranks) long = ap suc (symbols_long names ranks (omega (arith, long)))

  -- the number of a symbol is one of a name
  pub number_within : (names : List Name) (ranks : List Rank) (v : SymbolsView) (k : ℕ) → length names ≡ length ranks → record { sorts = sorts; symbols = symbols_of sorts names ranks } ≡ v → k < length v.symbols → k < length names
  number_within names ranks v k long is lt = omega (arith, lt, ap (λ (u : SymbolsView). length u.symbols) is, symbols_long names ranks long)

  -- the symbol of a number is that of its name and rank
  pub symbol_by : (names : List Name) (ranks : List Rank) (k : ℕ) (r : Rank) → length names ≡ length ranks → k < length names
      → get_or (symbols_of sorts names ranks) k no_symbol ≡ symbol_of sorts (get_or names k []) (get_or ranks k r).parameters.items (get_or ranks k r).result
  symbol_by [] ranks k r long within = absurd (omega (arith, within))
  symbol_by (n ∷ names) [] k r long within = absurd (omega (arith, long))
  symbol_by (n ∷ names) (q ∷ ranks) zero r long within = refl
  symbol_by (n ∷ names) (q ∷ ranks) (suc k) r long within = symbol_by names ranks k r (omega (arith, long)) (omega (arith, within))

  pub symbols_push : (names : List Name) (ranks : List Rank) (n : Name) (r : Rank) → length names ≡ length ranks
      → symbols_of sorts (names ++ n ∷ []) (ranks ++ r ∷ []) ≡ symbols_of sorts names ranks ++ symbol_of sorts n r.parameters.items r.result ∷ []
  symbols_push [] [] n r long = refl
  symbols_push [] (q ∷ ranks) n r long = absurd (omega (arith, long))
  symbols_push (m ∷ names) [] n r long = absurd (omega (arith, long))
  symbols_push (m ∷ names) (q ∷ ranks) n r long = ap (λ ss. symbol_of sorts m q.parameters.items q.result ∷ ss) (symbols_push names ranks n r (omega (arith, long)))

  -- more sorts leave symbols as they are
  pub symbols_more : (more : List Name) (names : List Name) (ranks : List Rank) → ((k : ℕ) (r : Rank) → k < length ranks → IsRank sorts (get_or ranks k r)) → symbols_of (sorts ++ more) names ranks ≡ symbols_of sorts names ranks
  symbols_more more [] ranks each = refl
  symbols_more more (n ∷ names) [] each = refl
  symbols_more more (n ∷ names) (r ∷ ranks) each =
      let this : IsRank sorts r = each 0 r (omega arith) in
      let others = symbols_more more names ranks (λ k q lt. each (suc k) q (omega (arith, lt))) in
      λ i. record { name = n; parameters = sorts_meant-more sorts more r.parameters.items this.parameters i; result = sort_meant-more sorts more r.result this.result i } ∷ others i

  pub declared_by : (names : List Name) (ranks : List Rank) → AreRanks sorts names ranks → AreDeclared sorts (symbols_of sorts names ranks)
  declared_by names ranks a = record { sorts_apart = a.sorts_apart; names_apart = subst HaveNoTwice (sym (names_back names ranks a.long)) a.names_apart }
