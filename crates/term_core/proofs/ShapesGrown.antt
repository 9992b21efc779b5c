-- The terms that are written one after the other, as they grow.
use Rattle.std.proofs.Common.{◌≡◌, ℕ, zero, suc, ◌+◌, ◌<◌, ◌≤◌, min, List, [], ◌∷◌, ◌++◌, length, take, drop, get_or, refl, sym, ap, ◌∙◌, subst, arith, append_assoc, length-append}
use Rattle.std.proofs.lemmas.Grind.{common_steps}
use Rattle.std.proofs.lemmas.List.{append-nil, take-append-drop, take_min, length-map}
use Rattle.std.proofs.Math.Nat.{min-le_right}
use Rattle.std.proofs.Math.Seq.{get_or-append_seam, take-append_seam}
use Rattle.spec_text.specs.Bytes.{Name}
use Rattle.spec_sorts.specs.Terms.{Symbol, Term, no_term}
use Rattle.term_core.specs.declared.nodes.Node.{Node}
use Rattle.term_core.specs.Symbols.{SymbolsView}
use Rattle.term_core.specs.Tables.{view, Shape, shape_of, shapes_of, no_shape, shape_term, ShapeFits, Extends, AreBefore, grown}
use Rattle.term_core.proofs.TermsExtend.{Fits-kept, shape_term-kept}

pub more_terms : (d : SymbolsView) (done more : List Term) → Extends (view d done) (view d (done ++ more))
more_terms d done more = record { more_sorts = []; sorts = sym (append-nil d.sorts); more_symbols = []; symbols = sym (append-nil d.symbols); more_terms = more; terms = refl }

-- sorts and symbols that have all that others have, by the same numbers
abbrev pub Widens : SymbolsView → SymbolsView → Type 0
Widens d e = (done : List Term) → Extends (view d done) (view e done)

pub more_sorts : (sorts more : List Name) (symbols : List Symbol) → Widens (record { sorts = sorts; symbols = symbols }) (record { sorts = sorts ++ more; symbols = symbols })
more_sorts sorts more symbols done = record { more_sorts = more; sorts = refl; more_symbols = []; symbols = sym (append-nil symbols); more_terms = []; terms = sym (append-nil done) }

pub more_symbols : (sorts : List Name) (symbols more : List Symbol) → Widens (record { sorts = sorts; symbols = symbols }) (record { sorts = sorts; symbols = symbols ++ more })
more_symbols sorts symbols more done = record { more_sorts = []; sorts = sym (append-nil sorts); more_symbols = more; symbols = refl; more_terms = []; terms = sym (append-nil done) }

-- What is before a number, and at it.
pub record IsAt (d : SymbolsView) (terms : List Term) (s : Shape) (j : ℕ) : Type 0 where
  pub front : List Term
  pub more : List Term
  pub long : length front ≡ j
  pub fits : ShapeFits (view d front) s
  pub whole : terms ≡ front ++ (shape_term (view d front) s ∷ more)

module _ (d : SymbolsView) where
  abbrev written : List Term → Shape → Term
  written done s = shape_term (view d done) s

  pub grown-length : (done : List Term) (ss : List Shape) → length (grown d done ss) ≡ length done + length ss
  grown-length done [] = omega arith
  grown-length done (s ∷ ss) = grown-length (done ++ written done s ∷ []) ss ∙ omega (arith, length-append done (written done s ∷ []))

  pub terms-length : (nodes : List Node) → length (grown d [] (shapes_of nodes)) ≡ length nodes
  terms-length nodes = grown-length [] (shapes_of nodes) ∙ omega (arith, length-map nodes shape_of)

  pub grown-more : (done : List Term) (ss : List Shape) → (more : List Term) × (grown d done ss ≡ done ++ more)
  grown-more done [] = ([], sym (append-nil done))
  grown-more done (s ∷ ss) =
      let t = written done s in
      let r = grown-more (done ++ t ∷ []) ss in
      (t ∷ r.0, r.1 ∙ append_assoc done (t ∷ []) r.0)

  pub grown-append : (done : List Term) (ss us : List Shape) → grown d done (ss ++ us) ≡ grown d (grown d done ss) us
  grown-append done [] us = refl
  grown-append done (s ∷ ss) us = grown-append (done ++ written done s ∷ []) ss us

  pub grown-push : (done : List Term) (ss : List Shape) (s : Shape) → grown d done (ss ++ s ∷ []) ≡ grown d done ss ++ written (grown d done ss) s ∷ []
  grown-push done ss s = grown-append done ss (s ∷ [])

  grown-take-within : (ss : List Shape) (k : ℕ) → k ≤ length ss → grown d [] (take k ss) ≡ take k (grown d [] ss)
  grown-take-within ss k le =
      let first = grown d [] (take k ss) in
      let more = grown-more first (drop k ss) in
      let whole : grown d [] ss ≡ first ++ more.0 = ap (grown d []) (sym (take-append-drop k ss)) ∙ grown-append [] (take k ss) (drop k ss) ∙ more.1 in
      let long : length first ≡ k = grown-length [] (take k ss) ∙ grind (arith, common_steps, le) in
      sym (take-append_seam first more.0) ∙ ap (λ m. take m (first ++ more.0)) long ∙ ap (take k) (sym whole)

  -- also where k is more than there are
  pub grown-take : (ss : List Shape) (k : ℕ) → grown d [] (take k ss) ≡ take k (grown d [] ss)
  grown-take ss k =
      let terms = grown d [] ss in
      let long : length terms ≡ length ss = grown-length [] ss ∙ omega arith in
      ap (grown d []) (sym (take_min k ss)) ∙ grown-take-within ss (min k (length ss)) (min-le_right k (length ss)) ∙ ap (λ m. take (min k m) terms) (sym long) ∙ take_min k terms

  -- what is at a number
  pub grown-at : (done : List Term) (ss : List Shape) (i j : ℕ) → AreBefore d done ss → i < length ss → j ≡ length done + i
      → IsAt d (grown d done ss) (get_or ss i no_shape) j
  grown-at done [] i j b within at = absurd (omega (arith, within))
  grown-at done (s ∷ ss) zero j b within at =
      let t = written done s in
      let r = grown-more (done ++ t ∷ []) ss in
      record { front = done; more = r.0; long = omega (arith, at); fits = b.0; whole = r.1 ∙ append_assoc done (t ∷ []) r.0 }
  grown-at done (s ∷ ss) (suc i) j b within at =
      let t = written done s in
      grown-at (done ++ t ∷ []) ss i j b.1 (omega (arith, within)) (omega (arith, at, length-append done (t ∷ [])))

  pub AreBefore-push : (done : List Term) (ss : List Shape) (s : Shape) → AreBefore d done ss → ShapeFits (view d (grown d done ss)) s → AreBefore d done (ss ++ s ∷ [])
  AreBefore-push done [] s b last = (last, tt)
  AreBefore-push done (u ∷ ss) s b last = (b.0, AreBefore-push (done ++ written done u ∷ []) ss s b.1 last)

  pub AreBefore-take : (done : List Term) (ss : List Shape) (m : ℕ) → AreBefore d done ss → AreBefore d done (take m ss)
  AreBefore-take done [] zero b = tt
  AreBefore-take done [] (suc m) b = tt
  AreBefore-take done (s ∷ ss) zero b = tt
  AreBefore-take done (s ∷ ss) (suc m) b = (b.0, AreBefore-take (done ++ written done s ∷ []) ss m b.1)

-- more sorts and symbols change nothing
module _ (d e : SymbolsView) (wider : Widens d e) where
  pub grown-wider : (done : List Term) (ss : List Shape) → AreBefore d done ss → grown e done ss ≡ grown d done ss
  grown-wider done [] b = refl
  grown-wider done (s ∷ ss) b =
      ap (λ t. grown e (done ++ t ∷ []) ss) (shape_term-kept _ _ (wider done) s b.0)
      ∙ grown-wider (done ++ shape_term (view d done) s ∷ []) ss b.1

  pub AreBefore-wider : (done : List Term) (ss : List Shape) → AreBefore d done ss → AreBefore e done ss
  AreBefore-wider done [] b = tt
  AreBefore-wider done (s ∷ ss) b = (
    Fits-kept _ _ (wider done) s b.0,
    subst (λ t. AreBefore e (done ++ t ∷ []) ss) (sym (shape_term-kept _ _ (wider done) s b.0)) (AreBefore-wider (done ++ shape_term (view d done) s ∷ []) ss b.1),
  )

module _ (d : SymbolsView) (terms : List Term) (s : Shape) (j : ℕ) (here : IsAt d terms s j) where
  extends : Extends (view d here.front) (view d terms)
  extends = subst (λ ts. Extends (view d here.front) (view d ts)) (sym here.whole) (more_terms d here.front (shape_term (view d here.front) s ∷ here.more))

  -- the term of the number is the one that is written there
  pub at-term : get_or terms j no_term ≡ shape_term (view d terms) s
  at-term =
      let t = shape_term (view d here.front) s in
      (λ i. get_or (here.whole i) (sym here.long i) no_term) ∙ get_or-append_seam here.front t here.more no_term ∙ sym (shape_term-kept _ _ extends s here.fits)

  pub at-fits : ShapeFits (view d terms) s
  at-fits = Fits-kept _ _ extends s here.fits
