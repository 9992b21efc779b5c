-- The clauses that terms give by a scheme, by the numbers of their terms.
use Rattle.std.proofs.Common.{◌≡◌, ◌≢◌, suc, Bool, true, false, ◌&&◌, if◌then◌else◌, List, [], ◌∷◌, map, length, Contains, refl, sym, ap, ◌∙◌, subst, arith}
use Rattle.std.specs.Prelude.{MatchBool}
use Rattle.std.specs.Cmp.Derive.{both_true}
use Rattle.std.proofs.lemmas.Bool.{false≢true, and_parts}
use Rattle.std.proofs.lemmas.List.{nil_from_length}
use Rattle.spec_text.proofs.Members.{to_image, from_image}
use Rattle.spec_sorts.specs.Terms.{Sort, Truth, Head, Term, of, negated, sort_of, all_same, head_takes, same_head}
use Rattle.spec_sorts.specs.Subsets.{arguments_of}
use Rattle.spec_sorts.specs.Literals.{Clause}
use Rattle.spec_sorts.proofs.General.{list_of-terms_of}
use Rattle.spec_proofs.specs.declared.Rest.{Rest}
use Rattle.spec_rules.specs.Schemes.{Scheme, signed_term, rests_of, is_formula_of}
use Rattle.spec_rules.specs.Rules.{IsGiven, IsStated, IsTurned, flipped}
use Rattle.term_core.specs.declared.ids.TermId.{TermId}
use Rattle.term_core.specs.declared.nodes.Head.{Head as NodeHead}
use Rattle.term_core.specs.declared.nodes.Head.TheVariants as heads
use Rattle.term_core.specs.declared.nodes.Node.{Node}
use Rattle.term_core.specs.contracts.nodes.HeadPartialEq.TheImpl.{ghosts as head_ghosts}
use Rattle.term_core.proofs.NodesSame.{same_node, node_same}
use Rattle.term_core.specs.Tables.{TableView, term_at, AreIn, clause_at, head_meant, takes, Shape, shape_term, ShapeFits}
use Rattle.clause_literals.specs.Polarities.{IsSigned, HasNoSign, HasNoTurn}
use Rattle.rule_bool.specs.Schemes.{scheme_meant, IsStating, IsTurning, GivesRest}
use Rattle.rule_bool.proofs.Behind.{signed_apart}

-- a head before arguments of sort Bool that it takes
formula_of : (g : Head) (xs : List Term) → same_head g g ≡ true → head_takes [] g (map sort_of xs) ≡ true → all_same Truth (map sort_of xs) ≡ true → is_formula_of g (of g xs) ≡ true
formula_of g xs a b c = subst (λ (ys : List Term). (same_head g g && head_takes [] g (map sort_of ys) && all_same Truth (map sort_of ys)) ≡ true) (sym (list_of-terms_of xs)) (both_true (both_true a b) c)

-- and such arguments are all of sort Bool
all_of : (g : Head) (xs : List Term) → is_formula_of g (of g xs) ≡ true → all_same Truth (map sort_of xs) ≡ true
all_of g xs e =
    let h : (same_head g g && head_takes [] g (map sort_of xs) && all_same Truth (map sort_of xs)) ≡ true = subst (λ (ys : List Term). (same_head g g && head_takes [] g (map sort_of ys) && all_same Truth (map sort_of ys)) ≡ true) (list_of-terms_of xs) e in
    (and_parts _ _ h).1

-- a node has the head that the derived `==` says
head_is : (n : Node) (h : NodeHead) → head_ghosts.eq n.head h ≡ true → n.head ≡ h
head_is n h e = ap (λ (s : Shape). s.head) (same_node n (record n { head = h }) (both_true e (and_parts _ _ (node_same n n refl)).1))

is_head : (n : Node) (h : NodeHead) → n.head ≡ h → head_ghosts.eq n.head h ≡ true
is_head n h e =
    let ids : List TermId = n.arguments.items in
    let shape : NodeHead → Shape = λ g. record { head = g; arguments = ids } in
    (and_parts _ _ (node_same n (record n { head = h }) (ap shape e))).0

pub head_by : (n : Node) (h : NodeHead) (b : Bool) → b ≡ head_ghosts.eq n.head h → MatchBool b (n.head ≡ h) (n.head ≢ h)
head_by n h true e = head_is n h (sym e)
head_by n h false e = λ is. false≢true (e ∙ is_head n h is)

-- no prefix is of the empty clause
none_given : (s : Scheme) → IsGiven s [] → ⊥
none_given s (t, i) = go (is_formula_of s.head t) i
  where
    go : (b : Bool) → Contains (if b then map (λ ls. signed_term s.positive t ∷ ls) (rests_of s.rest (arguments_of t)) else []) [] → ⊥
    go true i = let ls = from_image (λ (ls : Clause). signed_term s.positive t ∷ ls) (rests_of s.rest (arguments_of t)) [] i in cc (ls.2)
    go false i = omega (arith, i.1)

module _ (s : Scheme) (x : Term) (ls : Clause) where
  -- the term before a clause that is given
  given_front : IsGiven s (x ∷ ls) → (t : Term) × (x ≡ signed_term s.positive t) × GivesRest s.head s.rest t ls
  given_front (t, i) = go (is_formula_of s.head t) refl i
    where
      go : (b : Bool) → is_formula_of s.head t ≡ b → Contains (if b then map (λ ls. signed_term s.positive t ∷ ls) (rests_of s.rest (arguments_of t)) else []) (x ∷ ls)
          → (t : Term) × (x ≡ signed_term s.positive t) × GivesRest s.head s.rest t ls
      go true e i =
          let h = from_image (λ (ls : Clause). signed_term s.positive t ∷ ls) (rests_of s.rest (arguments_of t)) (x ∷ ls) i in
          let tail : h.0 ≡ ls = cc (h.2) in
          (t, cc (h.2), record { formula = e; by_arguments = subst (λ (c : Clause). Contains (rests_of s.rest (arguments_of t)) c) tail h.1 })
      go false e i = absurd (omega (arith, i.1))

  -- a first term, with what may come after it
  given_by : (t : Term) → x ≡ signed_term s.positive t → GivesRest s.head s.rest t ls → IsGiven s (x ∷ ls)
  given_by t e h = (
    t,
    subst (λ (b : Bool). Contains (if b then map (λ ls. signed_term s.positive t ∷ ls) (rests_of s.rest (arguments_of t)) else []) (x ∷ ls)) (sym h.formula)
        (subst (λ (y : Term). Contains (map (λ (ls : Clause). signed_term s.positive t ∷ ls) (rests_of s.rest (arguments_of t))) (y ∷ ls)) (sym e)
        (to_image (λ (ls : Clause). signed_term s.positive t ∷ ls) (rests_of s.rest (arguments_of t)) ls h.by_arguments)),
  )

-- what comes after the first number is the table's too
pub behind_in : (t : TableView) (clause : List TermId) (front : TermId) (behind : List TermId) → clause ≡ front ∷ behind → AreIn t clause → AreIn t behind
behind_in t clause front behind is h k d lt = subst (λ (c : List TermId). AreIn t c) is h (suc k) d (omega (arith, lt))

-- what is stated is given
stated_given : (s : Scheme) (ps : List Clause) (c : Clause) → IsStated s ps c → IsGiven s c
stated_given s [] c r = r
stated_given s (p ∷ ps) c r = absurd r

-- what is turned has one premise of one term
turned_alone : (t : TableView) (s : Scheme) (ps : List (List TermId)) (c : Clause) → ((u : TermId) → ps ≢ (u ∷ []) ∷ []) → IsTurned s (map (clause_at t) ps) c → ⊥
turned_alone t s [] c many r = r
turned_alone t s ([] ∷ ps) c many r = r
turned_alone t s ((u ∷ []) ∷ []) c many r = many u refl
turned_alone t s ((u ∷ []) ∷ p ∷ ps) c many r = r
turned_alone t s ((u ∷ v ∷ us) ∷ ps) c many r = r

-- such a head is itself
same_self : (t : TableView) (h : NodeHead) (r : Rest) → IsStating h r → same_head (head_meant t h) (head_meant t h) ≡ true
same_self t heads.True r h = refl
same_self t heads.False r h = refl
same_self t heads.Not r h = refl
same_self t heads.And r h = refl
same_self t heads.Or r h = refl
same_self t heads.Xor r h = refl
same_self t heads.Implies r h = refl
same_self t heads.Equal r h = refl
same_self t heads.Ite r h = refl
same_self t _ r h = absurd h

-- and what it takes is as the definitions say
takes_self : (t : TableView) (h : NodeHead) (r : Rest) (ss : List Sort) → IsStating h r → takes (head_meant t h) ss ≡ true → head_takes [] (head_meant t h) ss ≡ true
takes_self t heads.True r ss h e = e
takes_self t heads.False r ss h e = e
takes_self t heads.Not r ss h e = e
takes_self t heads.And r ss h e = e
takes_self t heads.Or r ss h e = e
takes_self t heads.Xor r ss h e = e
takes_self t heads.Implies r ss h e = e
takes_self t heads.Equal r ss h e = e
takes_self t heads.Ite r ss h e = e
takes_self t _ r ss h e = absurd h

-- a negation has no other head
not_negated : (t : TableView) (h : NodeHead) (r : Rest) → IsTurning h r → (u : Term) → is_formula_of (head_meant t h) (negated u) ≡ true → ⊥
not_negated t heads.True r h u e = false≢true e
not_negated t heads.False r h u e = false≢true e
not_negated t heads.Not r h u e = h
not_negated t heads.And r h u e = false≢true e
not_negated t heads.Or r h u e = false≢true e
not_negated t heads.Xor r h u e = false≢true e
not_negated t heads.Implies r h u e = false≢true e
not_negated t heads.Equal r h u e = false≢true e
not_negated t heads.Ite r h u e = false≢true e
not_negated t _ r h u e = h

module _ (t : TableView) (head : NodeHead) (rest : Rest) (form : IsStating head rest) where
  module _ (u : Term) (s : Shape) (is : u ≡ shape_term t s) (same : s.head ≡ head) where
    -- the term's arguments
    arguments_are : arguments_of u ≡ clause_at t s.arguments
    arguments_are = ap arguments_of is ∙ list_of-terms_of (clause_at t s.arguments)

    -- the term is the head before them
    written_is : u ≡ of (head_meant t head) (clause_at t s.arguments)
    written_is = is ∙ ap (λ (h : NodeHead). of (head_meant t h) (clause_at t s.arguments)) same

    -- arguments of another sort
    pub not_formulas : all_same Truth (map sort_of (clause_at t s.arguments)) ≡ false → (behind : Clause) → GivesRest (head_meant t head) rest u behind → ⊥
    not_formulas other behind g =
        let formula = subst (λ (v : Term). is_formula_of (head_meant t head) v ≡ true) written_is g.formula in
        let sorts = all_of (head_meant t head) (clause_at t s.arguments) formula in
        false≢true (sym other ∙ sorts)

    module _ (fits : ShapeFits t s) (all : all_same Truth (map sort_of (clause_at t s.arguments)) ≡ true) where
      -- the term has the head, over arguments of sort Bool
      formula_is : is_formula_of (head_meant t head) u ≡ true
      formula_is =
          let sorts = takes_self t head rest (map sort_of (clause_at t s.arguments)) form (subst (λ (h : NodeHead). takes (head_meant t h) (map sort_of (clause_at t s.arguments)) ≡ true) same fits.sorts) in
          subst (λ (v : Term). is_formula_of (head_meant t head) v ≡ true) (sym written_is)
          (formula_of (head_meant t head) (clause_at t s.arguments) (same_self t head rest form) sorts all)

      -- whether there may come after it what its arguments say
      pub gives_by : (behind : Clause) (yes : Bool) → MatchBool yes (Contains (rests_of rest (clause_at t s.arguments)) behind) (Contains (rests_of rest (clause_at t s.arguments)) behind → ⊥)
          → MatchBool yes (GivesRest (head_meant t head) rest u behind) (GivesRest (head_meant t head) rest u behind → ⊥)
      gives_by behind true h = record { formula = formula_is; by_arguments = subst (λ (xs : List Term). Contains (rests_of rest xs) behind) (sym arguments_are) h }
      gives_by behind false h = λ g. h (subst (λ (xs : List Term). Contains (rests_of rest xs) behind) arguments_are g.by_arguments)

module _ (t : TableView) (head : NodeHead) (positive : Bool) (rest : Rest) where
  module _ (x : Term) (id : TermId) (is : IsSigned t positive x id) (behind : Clause) where
    -- a clause that the table's term gives
    given_there : GivesRest (head_meant t head) rest (term_at t id) behind → IsGiven (scheme_meant t head positive rest) (x ∷ behind)
    given_there h = given_by (scheme_meant t head positive rest) x behind (term_at t id) is.same h

    -- and the other way round: no other term has it as head
    given_back : IsGiven (scheme_meant t head positive rest) (x ∷ behind) → GivesRest (head_meant t head) rest (term_at t id) behind
    given_back g =
        let h = given_front (scheme_meant t head positive rest) x behind g in
        subst (λ (u : Term). GivesRest (head_meant t head) rest u behind) (signed_apart positive h.0 (term_at t id) (sym h.1 ∙ is.same)) h.2

  module _ (premises : List (List TermId)) (clause : List TermId) where
    -- the clause is empty
    pub not_stated_empty : length clause ≡ 0 → IsStated (scheme_meant t head positive rest) (map (clause_at t) premises) (clause_at t clause) → ⊥
    not_stated_empty none r = none_given (scheme_meant t head positive rest)
        (subst (λ (c : List TermId). IsGiven (scheme_meant t head positive rest) (clause_at t c)) (nil_from_length clause none) (stated_given (scheme_meant t head positive rest) (map (clause_at t) premises) (clause_at t clause) r))

    module _ (front : TermId) (behind : List TermId) (is : clause ≡ front ∷ behind) where
      -- a clause that is stated is given
      front_given : IsStated (scheme_meant t head positive rest) (map (clause_at t) premises) (clause_at t clause) → IsGiven (scheme_meant t head positive rest) (term_at t front ∷ clause_at t behind)
      front_given r = subst (λ (c : List TermId). IsGiven (scheme_meant t head positive rest) (clause_at t c)) is
          (stated_given (scheme_meant t head positive rest) (map (clause_at t) premises) (clause_at t clause) r)

      -- the first term is without that sign
      pub not_stated_front : HasNoSign positive (term_at t front) → IsStated (scheme_meant t head positive rest) (map (clause_at t) premises) (clause_at t clause) → ⊥
      not_stated_front none r =
          let h = given_front (scheme_meant t head positive rest) (term_at t front) (clause_at t behind) (front_given r) in
          none h.0 h.1

      module _ (id : TermId) (has : IsSigned t positive (term_at t front) id) where
        -- what comes after it is as the term says
        pub stated_there : length premises ≡ 0 → GivesRest (head_meant t head) rest (term_at t id) (clause_at t behind)
            → IsStated (scheme_meant t head positive rest) (map (clause_at t) premises) (clause_at t clause)
        stated_there none h = subst (λ (ps : List (List TermId)). IsStated (scheme_meant t head positive rest) (map (clause_at t) ps) (clause_at t clause)) (sym (nil_from_length premises none))
            (subst (λ (c : List TermId). IsGiven (scheme_meant t head positive rest) (clause_at t c)) (sym is) (given_there (term_at t front) id has (clause_at t behind) h))

        -- and where it isn't
        pub not_stated : (GivesRest (head_meant t head) rest (term_at t id) (clause_at t behind) → ⊥)
            → IsStated (scheme_meant t head positive rest) (map (clause_at t) premises) (clause_at t clause) → ⊥
        not_stated lacks r = lacks (given_back (term_at t front) id has (clause_at t behind) (front_given r))

    -- not one premise of one term
    pub not_turned_many : ((u : TermId) → premises ≢ (u ∷ []) ∷ []) → IsTurned (scheme_meant t head positive rest) (map (clause_at t) premises) (clause_at t clause) → ⊥
    not_turned_many = turned_alone t (scheme_meant t head positive rest) premises (clause_at t clause)

    module _ (front : TermId) (is : premises ≡ (front ∷ []) ∷ []) where
      -- a clause that is turned is given
      turn_given : IsTurned (scheme_meant t head positive rest) (map (clause_at t) premises) (clause_at t clause) → IsGiven (scheme_meant t head positive rest) (flipped (term_at t front) ∷ clause_at t clause)
      turn_given r = subst (λ (ps : List (List TermId)). IsTurned (scheme_meant t head positive rest) (map (clause_at t) ps) (clause_at t clause)) is r

      -- the premise, flipped, is without that sign
      pub not_turned_front : IsTurning head rest → HasNoTurn positive (term_at t front) → IsTurned (scheme_meant t head positive rest) (map (clause_at t) premises) (clause_at t clause) → ⊥
      not_turned_front form none r =
          let h = given_front (scheme_meant t head positive rest) (flipped (term_at t front)) (clause_at t clause) (turn_given r) in
          not_negated t head rest form (term_at t front) (subst (λ (u : Term). is_formula_of (head_meant t head) u ≡ true) (none h.0 h.1) h.2.formula)

      module _ (id : TermId) (has : IsSigned t positive (flipped (term_at t front)) id) where
        -- the clause is as the term says
        pub turned_there : GivesRest (head_meant t head) rest (term_at t id) (clause_at t clause) → IsTurned (scheme_meant t head positive rest) (map (clause_at t) premises) (clause_at t clause)
        turned_there h = subst (λ (ps : List (List TermId)). IsTurned (scheme_meant t head positive rest) (map (clause_at t) ps) (clause_at t clause)) (sym is)
            (given_there (flipped (term_at t front)) id has (clause_at t clause) h)

        -- and where it isn't
        pub not_turned : (GivesRest (head_meant t head) rest (term_at t id) (clause_at t clause) → ⊥) → IsTurned (scheme_meant t head positive rest) (map (clause_at t) premises) (clause_at t clause) → ⊥
        not_turned lacks r = lacks (given_back (flipped (term_at t front)) id has (clause_at t clause) (turn_given r))
