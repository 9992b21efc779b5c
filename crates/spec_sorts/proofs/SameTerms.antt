-- The test of terms tells whether they are one.
use Rattle.std.proofs.Common.{◌≡◌, true, ◌&&◌, List, [], ◌∷◌, refl, sym, ap, subst, true≢false, nat_eq}
use Rattle.std.specs.Bool.{Decides}
use Rattle.std.specs.Cmp.{IsEquivalence}
use Rattle.std.specs.Ordering.{int_eq}
use Rattle.std.specs.Str.{bytes_eq}
use Rattle.std.proofs.lemmas.Slice.Eq.{bytes_eq-Decides}
use Rattle.std.proofs.lemmas.Bool.Decides.{same_from_decides, Decides-like, Decides-eqb, Decides-int_eq}
use Rattle.std.proofs.lemmas.Bool.{and_parts}
use Rattle.spec_text.proofs.General.{bytes_itself}
use Rattle.spec_numbers.specs.Fractions.{Fraction}
use Rattle.spec_sorts.proofs.WellSorted.{same_sort_is, same_sort_itself}
use Rattle.spec_sorts.specs.Terms.{Sort, same_sort, same_sorts, same_fraction, Symbol, same_symbol, Head, True, False, Not, And, Or, Xor, Implies, Equal, Ite, Minus, Plus, Times, Divide, Less, AtMost, Literal, Apply, Parameter, same_head, Term, Terms, app, nil, cons, same_term, same_terms}

pub one_sorts : (ss ts : List Sort) → same_sorts ss ts ≡ true → ss ≡ ts
one_sorts [] [] e = refl
one_sorts (s ∷ ss) (t ∷ ts) e =
    let parts = and_parts (same_sort s t) (same_sorts ss ts) e in
    λ i. same_sort_is s t parts.0 i ∷ one_sorts ss ts parts.1 i
one_sorts [] (t ∷ ts) e = absurd (true≢false (sym e))
one_sorts (s ∷ ss) [] e = absurd (true≢false (sym e))

pub sorts_itself : (ss : List Sort) → same_sorts ss ss ≡ true
sorts_itself [] = refl
sorts_itself (s ∷ ss) = λ i. same_sort_itself s i && sorts_itself ss i

pub one_symbol : (f g : Symbol) → same_symbol f g ≡ true → f ≡ g
one_symbol f g e =
    let name = and_parts (bytes_eq f.name g.name) (same_sorts f.parameters g.parameters && same_sort f.result g.result) e in
    let sorts = and_parts (same_sorts f.parameters g.parameters) (same_sort f.result g.result) name.1 in
    let names_one = (bytes_eq-Decides f.name g.name).0 name.0 in
    λ i. record { name = names_one i; parameters = one_sorts f.parameters g.parameters sorts.0 i; result = same_sort_is f.result g.result sorts.1 i }

pub symbol_itself : (f : Symbol) → same_symbol f f ≡ true
symbol_itself f = λ i. bytes_itself f.name i && (sorts_itself f.parameters i && same_sort_itself f.result i)

-- numbers that pass the test are one pair
pub one_fraction : (p q : Fraction) → same_fraction p q ≡ true → p ≡ q
one_fraction p q e =
    let parts = and_parts (int_eq p.num q.num) (nat_eq p.den q.den) e in
    λ i. record { num = (Decides-int_eq p.num q.num).0 parts.0 i; den = (Decides-eqb p.den q.den).0 parts.1 i }

pub fraction_itself : (p : Fraction) → same_fraction p p ≡ true
fraction_itself p = λ i. (Decides-int_eq p.num p.num).1 refl i && (Decides-eqb p.den p.den).1 refl i

pub one_head : (g h : Head) → same_head g h ≡ true → g ≡ h
one_head True True e = refl
one_head False False e = refl
one_head Not Not e = refl
one_head And And e = refl
one_head Or Or e = refl
one_head Xor Xor e = refl
one_head Implies Implies e = refl
one_head Equal Equal e = refl
one_head Ite Ite e = refl
one_head Minus Minus e = refl
one_head Plus Plus e = refl
one_head Times Times e = refl
one_head Divide Divide e = refl
one_head Less Less e = refl
one_head AtMost AtMost e = refl
one_head (Literal p) (Literal q) e = ap Literal (one_fraction p q e)
one_head (Apply f) (Apply g) e = ap Apply (one_symbol f g e)
one_head (Parameter j s) (Parameter k t) e =
    let parts = and_parts (nat_eq j k) (same_sort s t) e in
    λ i. Parameter ((Decides-eqb j k).0 parts.0 i) (same_sort_is s t parts.1 i)
one_head True _ e = cc
one_head False _ e = cc
one_head Not _ e = cc
one_head And _ e = cc
one_head Or _ e = cc
one_head Xor _ e = cc
one_head Implies _ e = cc
one_head Equal _ e = cc
one_head Ite _ e = cc
one_head Minus _ e = cc
one_head Plus _ e = cc
one_head Times _ e = cc
one_head Divide _ e = cc
one_head Less _ e = cc
one_head AtMost _ e = cc
one_head (Literal p) _ e = cc
one_head (Apply f) _ e = cc
one_head (Parameter j s) _ e = cc

pub head_itself : (h : Head) → same_head h h ≡ true
head_itself (Literal p) = fraction_itself p
head_itself (Apply f) = symbol_itself f
head_itself (Parameter k s) = λ i. (Decides-eqb k k).1 refl i && same_sort_itself s i
head_itself _ = refl

pub fractions_decide : (p q : Fraction) → Decides (same_fraction p q) (p ≡ q)
fractions_decide p q = (one_fraction p q, λ e. subst (λ r. same_fraction p r ≡ true) e (fraction_itself p))

mutual
  unfolding same_term same_terms

  pub one_term : (t u : Term) → same_term t u ≡ true → t ≡ u
  one_term (app h ts) (app g us) e =
      let parts = and_parts (same_head h g) (same_terms ts us) e in
      λ i. app (one_head h g parts.0 i) (one_list ts us parts.1 i)

  pub one_list : (ts us : Terms) → same_terms ts us ≡ true → ts ≡ us
  one_list nil nil e = refl
  one_list (cons t ts) (cons u us) e =
      let parts = and_parts (same_term t u) (same_terms ts us) e in
      λ i. cons (one_term t u parts.0 i) (one_list ts us parts.1 i)
  one_list nil (cons u us) e = absurd (true≢false (sym e))
  one_list (cons t ts) nil e = absurd (true≢false (sym e))

mutual
  unfolding same_term same_terms

  pub term_itself : (t : Term) → same_term t t ≡ true
  term_itself (app h ts) = λ i. head_itself h i && list_itself ts i

  pub list_itself : (ts : Terms) → same_terms ts ts ≡ true
  list_itself nil = refl
  list_itself (cons t ts) = λ i. term_itself t i && list_itself ts i

pub terms_decide : (t u : Term) → Decides (same_term t u) (t ≡ u)
terms_decide t u = (one_term t u, λ e. subst (λ v. same_term t v ≡ true) e (term_itself t))

pub terms_equivalence : IsEquivalence same_term
terms_equivalence = record {
  refl = term_itself;
  symm = λ t u. same_from_decides _ _ (terms_decide t u) (Decides-like _ sym sym (terms_decide u t));
  congr = λ t u v e. ap (λ w. same_term w v) (one_term t u e);
}
