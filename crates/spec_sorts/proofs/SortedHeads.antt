-- What each head of a theory is read as is well sorted.
use Rattle.std.proofs.Common.{◌≡◌, suc, arith, Bool, true, false, ◌&&◌, List, [], ◌∷◌, ◌++◌, length, map, cond, Option, Some, None, refl, sym, ap, ◌∙◌, subst}
use Rattle.std.specs.Prelude.{nat_le}
use Rattle.std.specs.List.{AllByRecursion}
use Rattle.std.specs.Str.{bytes_eq}
use Rattle.std.proofs.lemmas.Bool.{false≢true, and_parts, leb-true}
use Rattle.spec_text.specs.Bytes.{Name}
use Rattle.spec_sorts.specs.Lists.{left, right, neighbours, all_pairs}
use Rattle.spec_sorts.specs.Terms.{Sort, Truth, Number, Symbol, Head, True, False, Not, And, Or, Xor, Implies, Equal, Ite, Minus, Plus, Times, Divide, Less, AtMost, Term, of, no_term, pair, same_sort, all_same, sort_given, sort_of, second_sort, head_takes}
use Rattle.spec_sorts.specs.Theory.{look_up, each_of, alike, choice, sorts_fit, Rule, takes_count, exactly, at_least, unequal, turned, each_pair, differences, theory}
use Rattle.spec_sorts.specs.WellSorted.{IsHeadOver, IsWellSorted}
use Rattle.spec_sorts.proofs.WellSorted.{same_sort_is, same_sort_itself, Each, before}

module _ (symbols : List Symbol) (ps : List Sort) where
  -- a well-sorted term of a sort
  abbrev Fits : Sort → Term → Type 0
  Fits s t = (sort_of t ≡ s) × IsWellSorted symbols ps t

  -- a head joins two terms of one sort to one of another
  record Joins (h : Head) (s r : Sort) : Type 0 where
    takes : head_takes ps h (s ∷ s ∷ []) ≡ true
    over : IsHeadOver symbols h
    gives : (t u : Term) → sort_of (pair h t u) ≡ r

  joined : (h : Head) (s r : Sort) → Joins h s r → (t u : Term) → Fits s t → Fits s u → Fits r (pair h t u)
  joined h s r j t u a b = (j.gives t u, before symbols ps h (t ∷ u ∷ []) ((λ k. head_takes ps h (a.0 k ∷ b.0 k ∷ [])) ∙ j.takes) j.over (a.1, (b.1, tt)))

  -- terms that are all of one sort
  all_fit : (s : Sort) (ts : List Term) → all_same s (map sort_of ts) ≡ true → Each symbols ps ts → AllByRecursion (Fits s) ts
  all_fit s [] f a = tt
  all_fit s (t ∷ ts) f a = ((sym (same_sort_is s (sort_of t) (and_parts _ _ f).0), a.0), all_fit s ts (and_parts _ _ f).1 a.1)

  left_fits : (h : Head) (s : Sort) → Joins h s s → (t : Term) (ts : List Term) → Fits s t → AllByRecursion (Fits s) ts → Fits s (left no_term (pair h) (t ∷ ts))
  left_fits h s j t [] a b = a
  left_fits h s j t (u ∷ us) a b = left_fits h s j (pair h t u) us (joined h s s j t u a b.0) b.1

  right_fits : (h : Head) (s : Sort) → Joins h s s → (t : Term) (ts : List Term) → Fits s t → AllByRecursion (Fits s) ts → Fits s (right no_term (pair h) (t ∷ ts))
  right_fits h s j t [] a b = a
  right_fits h s j t (u ∷ us) a b = joined h s s j t (right no_term (pair h) (u ∷ us)) a (right_fits h s j u us b.0 b.1)

  -- both are of the sort
  abbrev BothFit : Sort → Term × Term → Type 0
  BothFit s q = Fits s q.0 × Fits s q.1

  neighbours_fit : (s : Sort) (ts : List Term) → AllByRecursion (Fits s) ts → AllByRecursion (BothFit s) (neighbours ts)
  neighbours_fit s [] a = tt
  neighbours_fit s (t ∷ []) a = tt
  neighbours_fit s (t ∷ u ∷ us) a = ((a.0, a.1.0), neighbours_fit s (u ∷ us) a.1)

  first_fits : (s : Sort) (t : Term) (us : List Term) (qs : List (Term × Term)) → Fits s t → AllByRecursion (Fits s) us → AllByRecursion (BothFit s) qs → AllByRecursion (BothFit s) (map {B = Term × Term} (λ u. (t, u)) us ++ qs)
  first_fits s t [] qs a b c = c
  first_fits s t (u ∷ us) qs a b c = ((a, b.0), first_fits s t us qs a b.1 c)

  all_pairs_fit : (s : Sort) (ts : List Term) → AllByRecursion (Fits s) ts → AllByRecursion (BothFit s) (all_pairs ts)
  all_pairs_fit s [] a = tt
  all_pairs_fit s (t ∷ ts) a = first_fits s t ts (all_pairs ts) a.0 a.1 (all_pairs_fit s ts a.1)

  -- a term for each two terms of a sort is of sort Bool
  abbrev Tells : Sort → (Term → Term → Term) → Type 0
  Tells s f = (t u : Term) → Fits s t → Fits s u → Fits Truth (f t u)

  each_pair_sorted : (s : Sort) (f : Term → Term → Term) → Tells s f → (q : Term × Term) (qs : List (Term × Term)) → AllByRecursion (BothFit s) (q ∷ qs) → IsWellSorted symbols ps (each_pair f (q ∷ qs))
  each_pair_sorted s f h q [] b = (h q.0 q.1 b.0.0 b.0.1).1
  each_pair_sorted s f h q (r ∷ rs) b = let k = all (q ∷ r ∷ rs) b in before symbols ps And (map (λ p. f p.0 p.1) (q ∷ r ∷ rs)) k.0 tt k.1
    where
      all : (qs : List (Term × Term)) → AllByRecursion (BothFit s) qs → (all_same Truth (map sort_of (map (λ p. f p.0 p.1) qs)) ≡ true) × Each symbols ps (map (λ p. f p.0 p.1) qs)
      all [] b = (refl, tt)
      all (q ∷ qs) b =
          let one = h q.0 q.1 b.0.0 b.0.1 in
          let rest = all qs b.1 in
          ((λ j. same_sort Truth (one.0 j) && rest.0 j), (one.1, rest.1))

  unequal_tells : (s : Sort) → Tells s unequal
  unfolding sort_of second_sort
  unequal_tells s t u a b =
      let p = joined Equal s Truth (record { takes = same_sort_itself s; over = tt; gives = λ t u. refl }) t u a b in
      (refl, before symbols ps Not (pair Equal t u ∷ []) refl tt (p.1, tt))

  -- what a rule reads is well sorted, where its arguments are as many and of such sorts as it takes
  abbrev pub KeepsSorts : Rule → Type 0
  KeepsSorts r = (ts : List Term) → takes_count r (length ts) ≡ true → sorts_fit r.takes (map sort_of ts) ≡ true → Each symbols ps ts → IsWellSorted symbols ps (r.reads ts)

  none_keeps : (h : Head) → head_takes ps h [] ≡ true → IsHeadOver symbols h → KeepsSorts (exactly 0 alike (of h))
  none_keeps h f o [] n g a = before symbols ps h [] f o tt
  none_keeps h f o (t ∷ ts) n g a = let few = leb-true (suc (length ts)) 0 (and_parts (nat_le 0 (suc (length ts))) (nat_le (suc (length ts)) 0) n).1 in absurd (omega (arith, few))

  not_keeps : KeepsSorts (exactly 1 (each_of Truth) (of Not))
  not_keeps [] n g a = absurd (false≢true n)
  not_keeps (t ∷ []) n g a = before symbols ps Not (t ∷ []) (ap (λ s. head_takes ps Not (s ∷ [])) (all_fit Truth (t ∷ []) g a).0.0) tt a
  not_keeps (t ∷ u ∷ us) n g a = let few = leb-true (suc (suc (length us))) 1 (and_parts (nat_le 1 (suc (suc (length us)))) (nat_le (suc (suc (length us))) 1) n).1 in absurd (omega (arith, few))

  -- a head that takes any number from one of arguments of a sort
  many_keep : (h : Head) (s : Sort) → ((r : Sort) (rs : List Sort) → head_takes ps h (r ∷ rs) ≡ all_same s (r ∷ rs)) → IsHeadOver symbols h → KeepsSorts (at_least 1 (each_of s) (of h))
  many_keep h s f o [] n g a = absurd (false≢true n)
  many_keep h s f o (t ∷ ts) n g a = before symbols ps h (t ∷ ts) (f (sort_of t) (map sort_of ts) ∙ g) o a

  left_keeps : (h : Head) (s : Sort) → Joins h s s → KeepsSorts (at_least 2 (each_of s) (λ ts. left no_term (pair h) ts))
  left_keeps h s j [] n g a = absurd (false≢true n)
  left_keeps h s j (t ∷ ts) n g a = let k = all_fit s (t ∷ ts) g a in (left_fits h s j t ts k.0 k.1).1

  right_keeps : (h : Head) (s : Sort) → Joins h s s → KeepsSorts (at_least 2 (each_of s) (λ ts. right no_term (pair h) ts))
  right_keeps h s j [] n g a = absurd (false≢true n)
  right_keeps h s j (t ∷ ts) n g a = let k = all_fit s (t ∷ ts) g a in (right_fits h s j t ts k.0 k.1).1

  chain_keeps : (s : Sort) (f : Term → Term → Term) → Tells s f → KeepsSorts (at_least 2 (each_of s) (λ ts. each_pair f (neighbours ts)))
  chain_keeps s f h [] n g a = absurd (false≢true n)
  chain_keeps s f h (t ∷ []) n g a = absurd (false≢true n)
  chain_keeps s f h (t ∷ u ∷ us) n g a = each_pair_sorted s f h (t, u) (neighbours (u ∷ us)) (neighbours_fit s (t ∷ u ∷ us) (all_fit s (t ∷ u ∷ us) g a))

  pairs_keep : (s : Sort) (f : Term → Term → Term) → Tells s f → KeepsSorts (at_least 2 (each_of s) (λ ts. each_pair f (all_pairs ts)))
  pairs_keep s f h [] n g a = absurd (false≢true n)
  pairs_keep s f h (t ∷ []) n g a = absurd (false≢true n)
  pairs_keep s f h (t ∷ u ∷ us) n g a = each_pair_sorted s f h (t, u) (map {B = Term × Term} (λ v. (t, v)) us ++ all_pairs (u ∷ us)) (all_pairs_fit s (t ∷ u ∷ us) (all_fit s (t ∷ u ∷ us) g a))

  -- where all sorts are alike they are that of the first
  alike_keep : (reads : List Term → Term) → ((s : Sort) → KeepsSorts (at_least 2 (each_of s) reads)) → KeepsSorts (at_least 2 alike reads)
  alike_keep reads h [] n g a = absurd (false≢true n)
  alike_keep reads h (t ∷ ts) n g a = h (sort_of t) (t ∷ ts) n (λ j. same_sort_itself (sort_of t) j && g j) a

  choice_takes : (ss : List Sort) → sorts_fit choice ss ≡ true → head_takes ps Ite ss ≡ true
  choice_takes (Truth ∷ s ∷ t ∷ []) h = h
  choice_takes _ h = absurd (false≢true h)

  difference_joins : Joins Minus Number Number
  unfolding sort_of
  difference_joins = record { takes = refl; over = tt; gives = λ t u. refl }

  differences_keep : KeepsSorts (at_least 1 (each_of Number) differences)
  differences_keep [] n g a = absurd (false≢true n)
  differences_keep (t ∷ []) n g a = before symbols ps Minus (t ∷ []) (ap (λ s. head_takes ps Minus (s ∷ [])) (all_fit Number (t ∷ []) g a).0.0) tt a
  differences_keep (t ∷ u ∷ us) n g a = let k = all_fit Number (t ∷ u ∷ us) g a in (left_fits Minus Number difference_joins t (u ∷ us) k.0 k.1).1

  -- a head joins two truth values, or two numbers
  truths_join : (h : Head) → head_takes ps h (Truth ∷ Truth ∷ []) ≡ true → IsHeadOver symbols h → ((s : Sort) → sort_given h s ≡ Truth) → Joins h Truth Truth
  unfolding sort_of
  truths_join h f o g = record { takes = f; over = o; gives = λ t u. g (sort_of u) }

  compares : (h : Head) → head_takes ps h (Number ∷ Number ∷ []) ≡ true → IsHeadOver symbols h → ((s : Sort) → sort_given h s ≡ Truth) → Joins h Number Truth
  unfolding sort_of
  compares h f o g = record { takes = f; over = o; gives = λ t u. g (sort_of u) }

  equal_joins : (s : Sort) → Joins Equal s Truth
  unfolding sort_of
  equal_joins s = record { takes = same_sort_itself s; over = tt; gives = λ t u. refl }

  quotient_joins : Joins Divide Number Number
  unfolding sort_of
  quotient_joins = record { takes = refl; over = tt; gives = λ t u. refl }

  -- each rule keeps sorts
  abbrev pub AllKeep : List (Name × Rule) → Type 0
  AllKeep rs = AllByRecursion (λ (e : Name × Rule). KeepsSorts e.1) rs

  pub theory_keeps : AllKeep theory
  theory_keeps = (none_keeps True refl tt, (none_keeps False refl tt, (not_keeps, (many_keep And Truth (λ r rs. refl) tt, (many_keep Or Truth (λ r rs. refl) tt, (left_keeps Xor Truth (truths_join Xor refl tt (λ s. refl)), (right_keeps Implies Truth (truths_join Implies refl tt (λ s. refl)), (alike_keep (λ ts. each_pair (pair Equal) (neighbours ts)) (λ s. chain_keeps s (pair Equal) (joined Equal s Truth (equal_joins s))), (alike_keep (λ ts. each_pair unequal (all_pairs ts)) (λ s. pairs_keep s unequal (unequal_tells s)), (choice_keeps, (differences_keep, (many_keep Plus Number (λ r rs. refl) tt, (many_keep Times Number (λ r rs. refl) tt, (left_keeps Divide Number quotient_joins, (chain_keeps Number (pair Less) (joined Less Number Truth (compares Less refl tt (λ s. refl))), (chain_keeps Number (pair AtMost) (joined AtMost Number Truth (compares AtMost refl tt (λ s. refl))), (chain_keeps Number (turned Less) (λ t u a b. joined Less Number Truth (compares Less refl tt (λ s. refl)) u t b a), (chain_keeps Number (turned AtMost) (λ t u a b. joined AtMost Number Truth (compares AtMost refl tt (λ s. refl)) u t b a), tt))))))))))))))))))
    where
      choice_keeps : KeepsSorts (exactly 3 choice (of Ite))
      choice_keeps ts n g a = before symbols ps Ite ts (choice_takes (map sort_of ts) g) tt a

  -- the rule of a name, if there is one
  abbrev RuleAt : Option Rule → Type 0
  RuleAt (Some r) = KeepsSorts r
  RuleAt None = Unit {0}

  pub rule_at : (rs : List (Name × Rule)) (n : Name) → AllKeep rs → RuleAt (look_up rs n)
  rule_at [] n h = tt
  rule_at (e ∷ es) n h = go (bytes_eq e.0 n) (rule_at es n h.1)
    where
      go : (c : Bool) → RuleAt (look_up es n) → RuleAt (cond c (Some e.1) (look_up es n))
      go true k = h.0
      go false k = k

  -- a head that the theories have is read as well-sorted terms
  pub head_keeps : (n : Name) (r : Rule) → look_up theory n ≡ Some r → KeepsSorts r
  head_keeps n r e = subst RuleAt e (rule_at theory n theory_keeps)
