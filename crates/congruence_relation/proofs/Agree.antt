-- The congruence by numbers is that of the terms of a table.
use Rattle.std.proofs.Common.{◌≡◌, length, Bool, true, false, ◌⊎◌, inl, inr, List, [], ◌∷◌, map, Contains, refl, sym, ◌∙◌, ap, subst}
use Rattle.std.specs.Prelude.{◌↔◌}
use Rattle.std.proofs.lemmas.List.Elements.{All-contains, All-head, All-tail}
use Rattle.spec_text.proofs.Members.{to_image, from_image}
use Rattle.spec_sorts.specs.Terms.{Equal, Head, Term, Terms, app, nil, cons, terms_of, of}
use Rattle.spec_sorts.specs.Literals.{Literal as TermLiteral}
use Rattle.spec_equality.specs.Reasons.{equal}
use Rattle.spec_equality.specs.Congruence.{truth_term, signed_literal, takes_part, IsRefuted as AreRefuted, IsCongruent as AreEqual, AreCongruent as AreAllEqual, equated, decided, itself as same_term, turned as turned_terms, joined as joined_terms, by_arguments as by_equal_arguments, none as no_terms, more as more_terms}
use Rattle.term_core.specs.declared.ids.TermId.{TermId}
use Rattle.term_core.specs.declared.ids.Lit.{Lit}
use Rattle.term_core.specs.declared.nodes.Head.{Head as NodeHead}
use Rattle.term_core.specs.declared.nodes.Head.TheVariants as heads
use Rattle.term_core.specs.Symbols.{AreDeclared}
use Rattle.term_core.specs.Tables.{TableView, declared_in, term_at, IsIn, AreIn, clause_at, literal_at, head_meant, HasHead, Shape, shape_term, ShapeFits, AreDifferent}
use Rattle.term_core.proofs.TermsApart.{one_shape}
use Rattle.term_core.proofs.Numbers.{same_numbers}
use Rattle.congruence_relation.specs.Relation.{Application, Facts, truth_of, IsEquality, StatesEqual, decides, equates, IsCongruentIn, AreCongruentIn, stated, itself, turned, joined, by_arguments, none, more, IsDenied, FactsAreRefuted, AreFactsOf, terms_listed}

-- Two terms are those of numbers of a table, which are congruent.
pub record AreNumbered (t : TableView) (f : Facts) (u v : Term) : Type 0 where
  -- the numbers
  pub one : TermId
  pub other : TermId
  -- they are of the table's
  pub one_there : IsIn t one
  pub other_there : IsIn t other
  -- the terms are theirs
  pub one_is : term_at t one ≡ u
  pub other_is : term_at t other ≡ v
  -- they are congruent
  pub congruent : IsCongruentIn f one other

-- The equality of two terms is held with a sign, by the numbers of a table.
pub record IsHeldEquality (t : TableView) (f : Facts) (u v : Term) (sign : Bool) : Type 0 where
  -- the literal
  pub literal : Lit
  -- it is held
  pub held : Contains f.held literal
  -- with that sign
  pub positive : literal.positive ≡ sign
  -- the sides
  pub one : TermId
  pub other : TermId
  -- its term is their equality
  pub equality : IsEquality f.listed literal.term one other
  -- they are of the table's
  pub one_there : IsIn t one
  pub other_there : IsIn t other
  -- and the terms are theirs
  pub one_is : term_at t one ≡ u
  pub other_is : term_at t other ≡ v

-- A listed term is a head with arguments.
record IsWritten (t : TableView) (x : Application) (h : Head) (ts : Terms) : Type 0 where
  head : head_meant t x.shape.head ≡ h
  arguments : terms_of (clause_at t x.shape.arguments) ≡ ts

-- The numbers are two, of two terms.
record AreTwo (t : TableView) (ids : List TermId) (u v : Term) : Type 0 where
  one : TermId
  other : TermId
  both : ids ≡ one ∷ other ∷ []
  one_there : IsIn t one
  other_there : IsIn t other
  one_is : term_at t one ≡ u
  other_is : term_at t other ≡ v

-- what means `=` is the code's word for it
equal_head : (t : TableView) (h : NodeHead) → head_meant t h ≡ Equal → h ≡ heads.Equal
equal_head t heads.Equal e = refl
equal_head t _ e = absurd (cc)

are_two : (t : TableView) (ids : List TermId) (u v : Term) → AreIn t ids → terms_of (clause_at t ids) ≡ cons u (cons v nil) → AreTwo t ids u v
are_two t (a ∷ b ∷ []) u v there e = record {
  one = a;
  other = b;
  both = refl;
  one_there = All-head (IsIn t) a (b ∷ []) there;
  other_there = All-head (IsIn t) b [] (All-tail (IsIn t) a (b ∷ []) there);
  one_is = cc;
  other_is = cc;
}
are_two t [] u v there e = absurd (cc)
are_two t (a ∷ []) u v there e = absurd (cc)
are_two t (a ∷ b ∷ c ∷ ids) u v there e = absurd (cc)

module _ (t : TableView) (f : Facts) (whole : AreFactsOf t f) where
  -- what is listed, and what is held, as terms
  abbrev listed : List Term
  listed = terms_listed t f

  abbrev literals : List TermLiteral
  literals = map (literal_at t) f.held

  -- what a table says of a listed term
  abbrev IsListed : Application → Type 0
  IsListed x = IsIn t x.term × ShapeFits t x.shape × (shape_term t x.shape ≡ term_at t x.term) × (x.takes_part ≡ takes_part (term_at t x.term))

  is_listed : (x : Application) → Contains f.listed x → IsListed x
  is_listed x there = All-contains IsListed f.listed x whole.terms there

  -- the term of an equality is that of its sides
  pub equality_term : (e a b : TermId) → IsEquality f.listed e a b → term_at t e ≡ equal (term_at t a) (term_at t b)
  equality_term e a b q = ap (term_at t) (sym q.term) ∙ sym (is_listed q.at q.there).2 ∙ ap (shape_term t) q.shape

  -- it takes part where its term does
  equality_part : (e a b : TermId) → (q : IsEquality f.listed e a b) → takes_part (term_at t e) ≡ q.at.takes_part
  equality_part e a b q = ap (λ (n : TermId). takes_part (term_at t n)) (sym q.term) ∙ sym (is_listed q.at q.there).3

  -- a held equality is held among terms
  pub equality_literal : (l : Lit) (a b : TermId) (sign : Bool) → Contains f.held l → l.positive ≡ sign → IsEquality f.listed l.term a b
      → Contains literals (signed_literal (equal (term_at t a) (term_at t b)) sign)
  equality_literal l a b sign there positive q = subst (Contains literals) (λ i. record { atom = equality_term l.term a b q i; positive = positive i }) (to_image (literal_at t) f.held l there)

  truth_is : (b : Bool) → truth_term b ≡ term_at t (truth_of f.truths b)
  truth_is true = sym whole.true_is
  truth_is false = sym whole.false_is

  truth_there : (b : Bool) → IsIn t (truth_of f.truths b)
  truth_there true = whole.true_there
  truth_there false = whole.false_there

  states_terms : (l : Lit) (a b : TermId) → Contains f.held l → StatesEqual f l a b → AreEqual listed literals (term_at t a) (term_at t b)
  states_terms l _ _ there decides = subst (AreEqual listed literals (term_at t l.term)) (truth_is l.positive) (decided (literal_at t l) (to_image (literal_at t) f.held l there))
  states_terms l a b there (equates _ _ positive q) = equated (term_at t a) (term_at t b) (equality_literal l a b true there positive q)

  -- congruent numbers have equal terms
  mutual
    pub terms_equal : (a b : TermId) → IsCongruentIn f a b → AreEqual listed literals (term_at t a) (term_at t b)
    terms_equal a b (stated l _ _ there s) = states_terms l a b there s
    terms_equal a b (itself _) = same_term (term_at t a)
    terms_equal a b (turned _ _ h) = turned_terms (term_at t b) (term_at t a) (terms_equal b a h)
    terms_equal a b (joined _ c _ h k) = joined_terms (term_at t a) (term_at t c) (term_at t b) (terms_equal a c h) (terms_equal c b k)
    terms_equal a b (by_arguments x y x_there y_there same x_part y_part arguments) =
        let x_is : shape_term t x.shape ≡ term_at t x.term = (is_listed x x_there).2 in
        let y_is : of (head_meant t x.shape.head) (clause_at t y.shape.arguments) ≡ term_at t y.term =
        ap (λ h. of (head_meant t h) (clause_at t y.shape.arguments)) same ∙ (is_listed y y_there).2 in
        let x_takes : takes_part (shape_term t x.shape) ≡ true = ap takes_part x_is ∙ sym (is_listed x x_there).3 ∙ x_part in
        let y_takes : takes_part (of (head_meant t x.shape.head) (clause_at t y.shape.arguments)) ≡ true = ap takes_part y_is ∙ sym (is_listed y y_there).3 ∙ y_part in
        let here = to_image (λ (z : Application). term_at t z.term) f.listed x x_there in
        let there = to_image (λ (z : Application). term_at t z.term) f.listed y y_there in
        subst (λ u. AreEqual listed literals u (term_at t y.term)) x_is (subst (AreEqual listed literals (shape_term t x.shape)) y_is
        (by_equal_arguments (head_meant t x.shape.head) (terms_of (clause_at t x.shape.arguments)) (terms_of (clause_at t y.shape.arguments))
        (subst (Contains listed) (sym x_is) here) (subst (Contains listed) (sym y_is) there) x_takes y_takes (all_equal x.shape.arguments y.shape.arguments arguments)))

    pub all_equal : (xs ys : List TermId) → AreCongruentIn f xs ys → AreAllEqual listed literals (terms_of (clause_at t xs)) (terms_of (clause_at t ys))
    all_equal _ _ none = no_terms
    all_equal _ _ (more x y xs ys h hs) = more_terms (term_at t x) (term_at t y) (terms_of (clause_at t xs)) (terms_of (clause_at t ys)) (terms_equal x y h) (all_equal xs ys hs)

  written : (x : Application) (h : Head) (ts : Terms) → Contains f.listed x → term_at t x.term ≡ app h ts → IsWritten t x h ts
  written x h ts there is =
      let e : app (head_meant t x.shape.head) (terms_of (clause_at t x.shape.arguments)) ≡ app h ts = (is_listed x there).2 ∙ is in
      record { head = cc; arguments = cc }

  -- the term of a held literal is listed
  atom_listed : (l : Lit) → Contains f.held l → (x : Application) × Contains f.listed x × (x.term ≡ l.term)
  atom_listed l there = All-contains (λ (l : Lit). (x : Application) × Contains f.listed x × (x.term ≡ l.term)) f.held l whole.held there

  atom_there : (l : Lit) → Contains f.held l → IsIn t l.term
  atom_there l there = let x = atom_listed l there in subst (IsIn t) x.2 (is_listed x.0 x.1).0

  -- an equality that is held among terms is held by numbers
  pub held_equality : (u v : Term) (sign : Bool) → Contains literals (signed_literal (equal u v) sign) → IsHeldEquality t f u v sign
  held_equality u v sign there =
      let (l, l_there, l_is) = from_image (literal_at t) f.held (signed_literal (equal u v) sign) there in
      let (x, x_there, x_is) = atom_listed l l_there in
      let w = written x Equal (terms_of (u ∷ v ∷ [])) x_there (ap (term_at t) x_is ∙ ap (λ (k : TermLiteral). k.atom) l_is) in
      let two = are_two t x.shape.arguments u v (is_listed x x_there).1.arguments w.arguments in
      let head = equal_head t x.shape.head w.head in
      record {
        literal = l;
        held = l_there;
        positive = ap (λ (k : TermLiteral). k.positive) l_is;
        one = two.one;
        other = two.other;
        equality = record { at = x; there = x_there; term = x_is; shape = λ i. record { head = head i; arguments = two.both i } };
        one_there = two.one_there;
        other_there = two.other_there;
        one_is = two.one_is;
        other_is = two.other_is;
      }

  equality_takes : (u v : Term) (sign : Bool) → (e : IsHeldEquality t f u v sign) → takes_part (equal u v) ≡ true → e.equality.at.takes_part ≡ true
  equality_takes u v sign e part =
      sym (equality_part e.literal.term e.one e.other e.equality) ∙ ap takes_part (equality_term e.literal.term e.one e.other e.equality)
      ∙ (λ i. takes_part (equal (e.one_is i) (e.other_is i))) ∙ part

  module _ (apart : AreDifferent t.terms) (declared : AreDeclared t.sorts t.symbols) where
    -- heads that mean one head are one
    one_head : (s u : Shape) → HasHead t s.head → ShapeFits t u → head_meant t s.head ≡ head_meant t u.head → s.head ≡ u.head
    one_head s u has fits e =
        ap (λ (z : Shape). z.head) (one_shape t.terms (length t.terms) apart (declared_in t) (record { head = s.head; arguments = u.arguments }) u declared fits.arguments has fits
        (ap (λ h. of h (clause_at t u.arguments)) e))

    -- numbers whose terms are one, or those of congruent numbers, are congruent
    numbers_of : (a b : TermId) (u v : Term) → IsIn t a → IsIn t b → term_at t a ≡ u → term_at t b ≡ v → (u ≡ v) ⊎ AreNumbered t f u v → IsCongruentIn f a b
    numbers_of a b u v a_there b_there a_is b_is (inl e) = subst (IsCongruentIn f a) (same_numbers t apart a b a_there b_there (a_is ∙ e ∙ sym b_is)) (itself a)
    numbers_of a b u v a_there b_there a_is b_is (inr n) =
        subst (λ c. IsCongruentIn f c b) (same_numbers t apart n.one a n.one_there a_there (n.one_is ∙ sym a_is))
        (subst (IsCongruentIn f n.one) (same_numbers t apart n.other b n.other_there b_there (n.other_is ∙ sym b_is)) n.congruent)

    turn_numbered : (u v : Term) → (u ≡ v) ⊎ AreNumbered t f u v → (v ≡ u) ⊎ AreNumbered t f v u
    turn_numbered u v (inl e) = inl (sym e)
    turn_numbered u v (inr n) = inr (record { one = n.other; other = n.one; one_there = n.other_there; other_there = n.one_there; one_is = n.other_is; other_is = n.one_is; congruent = turned n.one n.other n.congruent })

    join_numbered : (u v w : Term) → (u ≡ v) ⊎ AreNumbered t f u v → (v ≡ w) ⊎ AreNumbered t f v w → (u ≡ w) ⊎ AreNumbered t f u w
    join_numbered u v w (inl e) m = subst (λ z. (z ≡ w) ⊎ AreNumbered t f z w) (sym e) m
    join_numbered u v w (inr n) (inl e) = inr (subst (AreNumbered t f u) e n)
    join_numbered u v w (inr n) (inr m) = inr (record {
      one = n.one;
      other = m.other;
      one_there = n.one_there;
      other_there = m.other_there;
      one_is = n.one_is;
      other_is = m.other_is;
      congruent = joined n.one n.other m.other n.congruent
          (subst (λ c. IsCongruentIn f c m.other) (same_numbers t apart m.one n.other m.one_there n.other_there (m.one_is ∙ sym n.other_is)) m.congruent);
    })

    -- of two equal terms either both are one, or they have congruent numbers
    mutual
      pub numbers_congruent : (u v : Term) → AreEqual listed literals u v → (u ≡ v) ⊎ AreNumbered t f u v
      numbers_congruent u v (equated _ _ there) =
          let h = held_equality u v true there in
          inr (record { one = h.one; other = h.other; one_there = h.one_there; other_there = h.other_there; one_is = h.one_is; other_is = h.other_is; congruent = stated h.literal h.one h.other h.held (equates h.one h.other h.positive h.equality) })
      numbers_congruent _ _ (decided l there) =
          let (k, k_there, k_is) = from_image (literal_at t) f.held l there in
          inr (record {
            one = k.term;
            other = truth_of f.truths k.positive;
            one_there = atom_there k k_there;
            other_there = truth_there k.positive;
            one_is = ap (λ (z : TermLiteral). z.atom) k_is;
            other_is = sym (truth_is k.positive) ∙ ap (λ (z : TermLiteral). truth_term z.positive) k_is;
            congruent = stated k k.term (truth_of f.truths k.positive) k_there decides;
          })
      numbers_congruent _ _ (same_term u) = inl refl
      numbers_congruent v u (turned_terms _ _ h) = turn_numbered u v (numbers_congruent u v h)
      numbers_congruent u w (joined_terms _ v _ h k) = join_numbered u v w (numbers_congruent u v h) (numbers_congruent v w k)
      numbers_congruent _ _ (by_equal_arguments h ts us ts_there us_there ts_part us_part arguments) =
          let (x, x_there, x_is) = from_image (λ (z : Application). term_at t z.term) f.listed (app h ts) ts_there in
          let (y, y_there, y_is) = from_image (λ (z : Application). term_at t z.term) f.listed (app h us) us_there in
          let x_listed = is_listed x x_there in
          let y_listed = is_listed y y_there in
          let x_written = written x h ts x_there x_is in
          let y_written = written y h us y_there y_is in
          inr (record {
            one = x.term;
            other = y.term;
            one_there = x_listed.0;
            other_there = y_listed.0;
            one_is = x_is;
            other_is = y_is;
            congruent = by_arguments x y x_there y_there
                (one_head x.shape y.shape x_listed.1.head y_listed.1 (x_written.head ∙ sym y_written.head))
                (x_listed.3 ∙ ap takes_part x_is ∙ ts_part)
                (y_listed.3 ∙ ap takes_part y_is ∙ us_part)
                (all_numbers ts us arguments x.shape.arguments y.shape.arguments x_listed.1.arguments y_listed.1.arguments x_written.arguments y_written.arguments);
          })

      pub all_numbers : (ts us : Terms) → AreAllEqual listed literals ts us → (xs ys : List TermId) → AreIn t xs → AreIn t ys
          → terms_of (clause_at t xs) ≡ ts → terms_of (clause_at t ys) ≡ us → AreCongruentIn f xs ys
      all_numbers _ _ no_terms [] [] xs_there ys_there xs_are ys_are = none
      all_numbers _ _ no_terms [] (y ∷ ys) xs_there ys_there xs_are ys_are = absurd (cc)
      all_numbers _ _ no_terms (x ∷ xs) ys xs_there ys_there xs_are ys_are = absurd (cc)
      all_numbers _ _ (more_terms u v ts us h hs) (x ∷ xs) (y ∷ ys) xs_there ys_there xs_are ys_are =
          more x y xs ys
          (numbers_of x y u v (All-head (IsIn t) x xs xs_there) (All-head (IsIn t) y ys ys_there) (cc) (cc) (numbers_congruent u v h))
          (all_numbers ts us hs xs ys (All-tail (IsIn t) x xs xs_there) (All-tail (IsIn t) y ys ys_there) (cc) (cc))
      all_numbers _ _ (more_terms u v ts us h hs) [] ys xs_there ys_there xs_are ys_are = absurd (cc)
      all_numbers _ _ (more_terms u v ts us h hs) (x ∷ xs) [] xs_there ys_there xs_are ys_are = absurd (cc)

    -- numbers are congruent where their terms are equal
    pub numbers_agree : (a b : TermId) → IsIn t a → IsIn t b → IsCongruentIn f a b ↔ AreEqual listed literals (term_at t a) (term_at t b)
    numbers_agree a b a_there b_there = (terms_equal a b, λ e. numbers_of a b (term_at t a) (term_at t b) a_there b_there refl refl (numbers_congruent (term_at t a) (term_at t b) e))

    -- what is refuted by numbers is refuted among terms, and the other way
    pub refuted_terms : FactsAreRefuted f → AreRefuted listed literals
    refuted_terms (inl h) =
        inl (subst (λ u. AreEqual listed literals u (truth_term false)) whole.true_is
        (subst (AreEqual listed literals (term_at t f.truths.true_term)) whole.false_is (terms_equal f.truths.true_term f.truths.false_term h)))
    refuted_terms (inr (a, b, d, h)) = inr (
      term_at t a,
      term_at t b,
      equality_literal d.literal a b false d.held d.negative d.equality,
      ap takes_part (sym (equality_term d.literal.term a b d.equality)) ∙ equality_part d.literal.term a b d.equality ∙ d.part,
      terms_equal a b h,
    )

    pub refuted_numbers : AreRefuted listed literals → FactsAreRefuted f
    refuted_numbers (inl h) =
        inl (numbers_of f.truths.true_term f.truths.false_term (truth_term true) (truth_term false) whole.true_there whole.false_there whole.true_is whole.false_is
        (numbers_congruent (truth_term true) (truth_term false) h))
    refuted_numbers (inr (u, v, there, part, h)) =
        let e = held_equality u v false there in
        let denied : IsDenied f e.one e.other = record { literal = e.literal; held = e.held; negative = e.positive; equality = e.equality; part = equality_takes u v false e part } in
        inr (e.one, e.other, denied, numbers_of e.one e.other u v e.one_there e.other_there e.one_is e.other_is (numbers_congruent u v h))
