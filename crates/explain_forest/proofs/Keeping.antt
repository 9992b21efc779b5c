-- What the parts of a forest keep is kept by each call.
use Rattle.std.proofs.Common.{◌≡◌, ℕ, suc, ◌<◌, ◌≤◌, List, [], ◌∷◌, ◌++◌, length, reverse, take, drop, get_or, slice_set, sym, ◌∙◌, ap, subst, arith, length-set, drop_of_length-le, append-nil, take_all}
use Rattle.std.proofs.lemmas.List.{reverse-append, length-reverse}
use Rattle.explain_forest.specs.declared.types.Edge.{Edge}
use Rattle.explain_forest.specs.declared.types.EdgeMark.{EdgeMark}
use Rattle.explain_forest.specs.Forest.{root, Linked}
use Rattle.explain_forest.specs.Kept.{EdgesAreApart, parents_by, stamps_by, ArraysShow, IsMark, AreEdgeMarks, ForestFits}
use Rattle.explain_forest.proofs.Marks.{marks-set, marks-more, marks-linked, mark-at, marks-back}

-- one edge more
shows-linked : (parents stamps : List ℕ) (edges : List Edge) (e : Edge) → ArraysShow parents stamps edges → e.a.0 < length parents → e.b.0 < length parents → (Linked (reverse edges) e.a.0 e.b.0 → ⊥)
    → ArraysShow (slice_set parents (root (reverse edges) e.a.0) (root (reverse edges) e.b.0)) (slice_set stamps (root (reverse edges) e.a.0) (suc (length edges))) (edges ++ e ∷ [])
shows-linked parents stamps edges e s ha hb apart =
    let n : ℕ = length parents in
    let es = reverse edges in
    let more : reverse (edges ++ e ∷ []) ≡ e ∷ es = reverse-append edges (e ∷ []) in
    let m : length (slice_set parents (root es e.a.0) (root es e.b.0)) ≡ n = length-set parents (root es e.a.0) (root es e.b.0) in
    record {
      parents_are = ap (λ ps. slice_set ps (root es e.a.0) (root es e.b.0)) s.parents_are ∙ (λ i. parents_by (sym m i) (sym more i));
      stamps_are = (λ i. slice_set (s.stamps_are i) (root es e.a.0) (suc (sym (length-reverse edges) i))) ∙ (λ i. stamps_by (sym m i) (sym more i));
      apart = subst (λ k. EdgesAreApart k (reverse (edges ++ e ∷ []))) (sym m) (subst (EdgesAreApart n) (sym more) (ha, hb, apart, s.apart));
    }

module _ (parents stamps : List ℕ) (edges : List Edge) (marks : List EdgeMark) (room : ℕ) (kept : ForestFits parents stamps edges marks room) where
  pub kept-linked : (e : Edge) → e.a.0 < length parents → e.b.0 < length parents → (Linked (reverse edges) e.a.0 e.b.0 → ⊥) → (below above stamp room_after : ℕ) (after : List Edge)
      → below ≡ root (reverse edges) e.a.0 → above ≡ root (reverse edges) e.b.0 → stamp ≡ suc (length edges) → after ≡ edges ++ e ∷ [] → room_after ≡ room
      → ForestFits (slice_set parents below above) (slice_set stamps below stamp) after marks room_after
  kept-linked e ha hb apart below above stamp room_after after b a st more same =
      let m : length (slice_set parents below above) ≡ length parents = length-set parents below above in
      record {
        shows = subst (λ es. ArraysShow (slice_set parents below above) (slice_set stamps below stamp) es) (sym more)
            (subst (λ k. ArraysShow (slice_set parents below above) (slice_set stamps below k) (edges ++ e ∷ [])) (sym st)
            (subst (λ k. ArraysShow (slice_set parents k above) (slice_set stamps k (suc (length edges))) (edges ++ e ∷ [])) (sym b)
            (subst (λ k. ArraysShow (slice_set parents (root (reverse edges) e.a.0) k) (slice_set stamps (root (reverse edges) e.a.0) (suc (length edges))) (edges ++ e ∷ [])) (sym a)
            (shows-linked parents stamps edges e kept.shows ha hb apart))));
        marked = subst (λ k. AreEdgeMarks k after marks) (sym m) (subst (λ es. AreEdgeMarks (length parents) es marks) (sym more) (marks-linked (length parents) edges e marks kept.marked));
        fits = let f = kept.fits in omega (arith, f, m, same);
      }

  pub kept-set : (set_marks : List EdgeMark) → set_marks ≡ marks ++ record { edges = length edges; terms = length parents } ∷ [] → ForestFits parents stamps edges set_marks room
  kept-set set_marks is = record {
    shows = kept.shows;
    marked = subst (AreEdgeMarks (length parents) edges) (sym is) (marks-set (length parents) edges marks kept.shows.apart kept.marked);
    fits = kept.fits;
  }

  pub kept-more : (more_parents more_stamps : List ℕ) (after : List Edge) (room_after : ℕ) → length parents ≤ length more_parents → ArraysShow more_parents more_stamps edges → after ≡ edges
      → length more_parents ≤ room_after → ForestFits more_parents more_stamps after marks room_after
  kept-more more_parents more_stamps after room_after more s same fits = record {
    shows = subst (ArraysShow more_parents more_stamps) (sym same) s;
    marked = subst (λ es. AreEdgeMarks (length more_parents) es marks) (sym same) (marks-more (length parents) (length more_parents) edges marks more kept.marked);
    fits = fits;
  }

  module _ (m : EdgeMark) (at : ℕ) (there : (at < length marks) × (get_or marks at m ≡ m)) where
    pub kept-mark : IsMark (length parents) edges m
    kept-mark = mark-at (length parents) edges m marks at kept.marked there.0 there.1

    -- after the edges are cut, and the terms
    pub kept-back : (cut_parents cut_stamps old_parents old_stamps : List ℕ) (after : List Edge) (marks_after : List EdgeMark) (room_after : ℕ)
        → after ≡ take m.edges edges → marks_after ≡ take at marks → room_after ≡ room → ArraysShow cut_parents cut_stamps after
        → ((es : List Edge) → EdgesAreApart m.terms (reverse es) → ArraysShow cut_parents cut_stamps es → ArraysShow old_parents old_stamps es) → length old_parents ≡ m.terms
        → ForestFits old_parents old_stamps after marks_after room_after
    kept-back cut_parents cut_stamps old_parents old_stamps after marks_after room_after es_are ms_are same s fewer terms = record {
      shows = fewer after (subst (λ es. EdgesAreApart m.terms (reverse es)) (sym es_are) kept-mark.apart) s;
      marked = subst (λ k. AreEdgeMarks k after marks_after) (sym terms) (subst (λ es. AreEdgeMarks m.terms es marks_after) (sym es_are) (subst (AreEdgeMarks m.terms (take m.edges edges)) (sym ms_are)
          (marks-back (length parents) edges m marks at kept-mark kept.marked there.0 there.1)));
      fits = let f = kept.fits in let l = kept-mark.few_terms in omega (arith, f, l, terms, same);
    }

-- the mark that was found
pub found : (list marks : List EdgeMark) (at : ℕ) (m : EdgeMark) → list ≡ marks → at < length list → m ≡ get_or list at m → (at < length marks) × (get_or marks at m ≡ m)
found list marks at m same low is = (subst (λ ms. at < length ms) same low, ap (λ ms. get_or ms at m) (sym same) ∙ sym is)

-- an array that was lent whole comes back whole
pub lent : (new old : List ℕ) (n : ℕ) → n ≡ length old → length new ≡ length old → take n (new ++ drop (length new) old) ≡ new
lent new old n is same =
    ap (λ l. take n (new ++ l)) (drop_of_length-le old (omega (arith, same))) ∙ ap (take n) (append-nil new) ∙ take_all n new (omega (arith, is, same))

pub shows-lent : (parents lent_parents stamps lent_stamps : List ℕ) (edges : List Edge) → lent_parents ≡ parents → lent_stamps ≡ stamps → ArraysShow parents stamps edges → ArraysShow lent_parents lent_stamps edges
shows-lent parents lent_parents stamps lent_stamps edges p q s = subst (λ ps. ArraysShow ps lent_stamps edges) (sym p) (subst (λ ss. ArraysShow parents ss edges) (sym q) s)
