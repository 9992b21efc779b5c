-- Classes that keep terms apart: what is equal is of one class. And terms of one argument that are equal.
use Rattle.std.proofs.Common.{◌≡◌, true, List, [], ◌∷◌, map, Contains, refl, sym, ◌∙◌, ap}
use Rattle.std.specs.List.{AllByRecursion}
use Rattle.std.proofs.lemmas.List.Elements.{All-from_recursion, All-contains}
use Rattle.spec_sorts.specs.Terms.{Head, Term, Terms, no_term, app, nil, cons, list_of}
use Rattle.spec_sorts.specs.Literals.{Literal}
use Rattle.spec_equality.specs.Reasons.{equal}
use Rattle.spec_text.proofs.Members.{none as nothing}
use Rattle.spec_equality.specs.Congruence.{truth_term, signed_literal, takes_part, IsCongruent, AreCongruent, equated, decided, itself, turned, joined, by_arguments, none, more}

-- Each of two terms that are stated to be equal, or are listed with one head and arguments of the same classes, is of the other's class.
pub record AreKept {K : Type 0} (listed : List Term) (held : List Literal) (class : Term → K) : Type 0 where
  -- the sides of held equalities
  pub sides : (t u : Term) → Contains held (signed_literal (equal t u) true) → class t ≡ class u
  -- held literals' terms, and their truth values
  pub truths : (l : Literal) → Contains held l → class l.atom ≡ class (truth_term l.positive)
  -- listed terms
  pub terms : (h : Head) (ts us : Terms) → Contains listed (app h ts) → Contains listed (app h us) → map class (list_of ts) ≡ map class (list_of us) → class (app h ts) ≡ class (app h us)

module _ {K : Type 0} (listed : List Term) (held : List Literal) (class : Term → K) (kept : AreKept listed held class) where
  mutual
    pub one_class : (t u : Term) → IsCongruent listed held t u → class t ≡ class u
    one_class t u (equated _ _ there) = kept.sides t u there
    one_class _ _ (decided l there) = kept.truths l there
    one_class t _ (itself _) = refl
    one_class u t (turned _ _ e) = sym (one_class t u e)
    one_class t v (joined _ u _ e g) = one_class t u e ∙ one_class u v g
    one_class _ _ (by_arguments h ts us ts_there us_there _ _ es) = kept.terms h ts us ts_there us_there (all_classes ts us es)

    pub all_classes : (ts us : Terms) → AreCongruent listed held ts us → map class (list_of ts) ≡ map class (list_of us)
    all_classes _ _ none = refl
    all_classes _ _ (more t u ts us e es) = λ j. one_class t u e j ∷ all_classes ts us es j

-- terms whose lists are one are the same
one_list : (ts us : Terms) → map (λ t. t) (list_of ts) ≡ map (λ t. t) (list_of us) → ts ≡ us
one_list nil nil e = refl
one_list (cons t ts) (cons u us) e =
    let first : t ≡ u = cc in
    let rest : ts ≡ us = one_list ts us (cc) in
    λ i. cons (first i) (rest i)
one_list nil (cons u us) e = absurd (cc)
one_list (cons t ts) nil e = absurd (cc)

-- where nothing is held, a term is equal to itself alone
pub itself_alone : (listed : List Term) (t u : Term) → IsCongruent listed [] t u → t ≡ u
itself_alone listed = one_class listed [] (λ t. t) (record {
  sides = λ t u there. absurd (nothing (signed_literal (equal t u) true) there);
  truths = λ l there. absurd (nothing l there);
  terms = λ h ts us ts_there us_there e. ap (app h) (one_list ts us e);
})

-- the two arguments of a term
abbrev pub left_of : Term → Term
left_of (app h (cons t (cons u nil))) = t
left_of _ = no_term

abbrev pub right_of : Term → Term
right_of (app h (cons t (cons u nil))) = u
right_of _ = no_term

abbrev pub head_in : Term → Head
head_in (app h ts) = h

module _ {K : Type 0} (class : Term → K) where
  -- a literal's term is of its truth value's class, and the sides of an equality of each other's
  abbrev pub IsKeptBy : Literal → Type 0
  IsKeptBy l = (class l.atom ≡ class (truth_term l.positive)) × (l.positive ≡ true → class (left_of l.atom) ≡ class (right_of l.atom))

  -- each of these is so
  pub member : {X : Type 0} (P : X → Type 0) (xs : List X) → AllByRecursion P xs → (x : X) → Contains xs x → P x
  member P xs each x there = All-contains P xs x (All-from_recursion P xs each) there

  -- classes that each held literal keeps, and that each listed term has by its head
  pub kept_by : (listed : List Term) (held : List Literal) (by_head : Head → K) → AllByRecursion (λ t. class t ≡ by_head (head_in t)) listed → AllByRecursion IsKeptBy held → AreKept listed held class
  kept_by listed held by_head terms literals = record {
    sides = λ t u there. (member IsKeptBy held literals (signed_literal (equal t u) true) there).1 refl;
    truths = λ l there. (member IsKeptBy held literals l there).0;
    terms = λ h ts us ts_there us_there e.
        member (λ t. class t ≡ by_head (head_in t)) listed terms (app h ts) ts_there ∙ sym (member (λ t. class t ≡ by_head (head_in t)) listed terms (app h us) us_there);
  }

-- listed terms of one argument are equal where their arguments are
pub by_one : (listed : List Term) (held : List Literal) (h : Head) (t u : Term) → Contains listed (app h (cons t nil)) → Contains listed (app h (cons u nil))
    → takes_part (app h (cons t nil)) ≡ true → takes_part (app h (cons u nil)) ≡ true → IsCongruent listed held t u → IsCongruent listed held (app h (cons t nil)) (app h (cons u nil))
by_one listed held h t u t_there u_there t_part u_part e = by_arguments h (cons t nil) (cons u nil) t_there u_there t_part u_part (more t u nil nil e none)
