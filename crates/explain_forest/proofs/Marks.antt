-- Marks, which later calls leave as they were.
use Rattle.std.proofs.Common.{◌≡◌, ℕ, zero, suc, ◌<◌, ◌≤◌, List, [], ◌∷◌, ◌++◌, length, reverse, map, take, get_or, refl, sym, ap, subst, arith}
use Rattle.std.specs.Prelude.{All}
use Rattle.std.proofs.lemmas.List.{length-append, take-append-le, take-take, take_all, length-take-le}
use Rattle.std.proofs.lemmas.List.Elements.{All-nil, All-cons, All-head, All-tail, All-push, All-get_or, All-take}
use Rattle.explain_forest.specs.declared.types.Edge.{Edge}
use Rattle.explain_forest.specs.declared.types.EdgeMark.{EdgeMark}
use Rattle.explain_forest.specs.Forest.{ForestState}
use Rattle.explain_forest.specs.Kept.{EdgesAreApart, state_at, IsMark, IsBefore, AreEdgeMarks}

-- a mark at what is there now
marks-push : (n : ℕ) (edges : List Edge) (ms : List EdgeMark) (m : EdgeMark) → AreEdgeMarks n edges ms → IsMark n edges m → All (λ k. IsBefore k m) ms → AreEdgeMarks n edges (ms ++ m ∷ [])
marks-push n edges [] m ok is h = (is, All-nil (IsBefore m), tt)
marks-push n edges (k ∷ ms) m ok is h = (ok.0, All-push (IsBefore k) ms m ok.1 (All-head (λ j. IsBefore j m) k ms h), marks-push n edges ms m ok.2 is (All-tail (λ j. IsBefore j m) k ms h))

marks-before : (n : ℕ) (edges : List Edge) (ms : List EdgeMark) → AreEdgeMarks n edges ms → All (λ k. IsBefore k (record { edges = length edges; terms = n })) ms
marks-before n edges [] ok = All-nil (λ k. IsBefore k (record { edges = length edges; terms = n }))
marks-before n edges (k ∷ ms) ok = All-cons (λ j. IsBefore j (record { edges = length edges; terms = n })) k ms (record { few_terms = ok.0.few_terms; few_edges = ok.0.few_edges }) (marks-before n edges ms ok.2)

pub marks-set : (n : ℕ) (edges : List Edge) (ms : List EdgeMark) → EdgesAreApart n (reverse edges) → AreEdgeMarks n edges ms → AreEdgeMarks n edges (ms ++ record { edges = length edges; terms = n } ∷ [])
marks-set n edges ms apart ok = marks-push n edges ms (record { edges = length edges; terms = n }) ok (record {
  few_terms = omega arith;
  few_edges = omega arith;
  apart = subst (λ l. EdgesAreApart n (reverse l)) (sym (take_all (length edges) edges (omega arith))) apart;
}) (marks-before n edges ms ok)

-- more terms
pub marks-more : (n k : ℕ) (edges : List Edge) (ms : List EdgeMark) → n ≤ k → AreEdgeMarks n edges ms → AreEdgeMarks k edges ms
marks-more n k edges [] h ok = tt
marks-more n k edges (m ∷ ms) h ok = (record { few_terms = let l = ok.0.few_terms in omega arith; few_edges = ok.0.few_edges; apart = ok.0.apart }, ok.1, marks-more n k edges ms h ok.2)

-- one edge more
pub marks-linked : (n : ℕ) (edges : List Edge) (e : Edge) (ms : List EdgeMark) → AreEdgeMarks n edges ms → AreEdgeMarks n (edges ++ e ∷ []) ms
marks-linked n edges e [] ok = tt
marks-linked n edges e (m ∷ ms) ok = (
  record {
    few_terms = ok.0.few_terms;
    few_edges = let l = ok.0.few_edges in let k = length-append edges (e ∷ []) in omega (arith, l, k);
    apart = subst (λ l. EdgesAreApart m.terms (reverse l)) (sym (take-append-le m.edges edges (e ∷ []) ok.0.few_edges)) ok.0.apart;
  },
  ok.1,
  marks-linked n edges e ms ok.2,
)

pub states-linked : (n : ℕ) (edges : List Edge) (e : Edge) (ms : List EdgeMark) → AreEdgeMarks n edges ms → map (state_at (edges ++ e ∷ [])) ms ≡ map (state_at edges) ms
states-linked n edges e [] ok = refl
states-linked n edges e (m ∷ ms) ok = λ i. record { terms = m.terms; edges = reverse (take-append-le m.edges edges (e ∷ []) ok.0.few_edges i) } ∷ states-linked n edges e ms ok.2 i

-- back to a mark
module _ (n : ℕ) (edges : List Edge) (m : EdgeMark) where
  pub mark-at : (ms : List EdgeMark) (kept : ℕ) → AreEdgeMarks n edges ms → kept < length ms → get_or ms kept m ≡ m → IsMark n edges m
  mark-at [] kept ok h is = absurd (omega arith)
  mark-at (k ∷ ms) zero ok h is = subst (IsMark n edges) is ok.0
  mark-at (k ∷ ms) (suc kept) ok h is = mark-at ms kept ok.2 (omega arith) is

  pub state-back : (ms : List EdgeMark) (kept : ℕ) (now : ForestState) → kept < length ms → get_or ms kept m ≡ m → get_or (map (state_at edges) ms) kept now ≡ state_at edges m
  state-back [] kept now h is = absurd (omega arith)
  state-back (k ∷ ms) zero now h is = ap (state_at edges) is
  state-back (k ∷ ms) (suc kept) now h is = state-back ms kept now (omega arith) is

  before-at : (k : EdgeMark) (ms : List EdgeMark) (kept : ℕ) → All (IsBefore k) ms → kept < length ms → get_or ms kept m ≡ m → IsBefore k m
  before-at k ms kept h low is = subst (IsBefore k) is (All-get_or (IsBefore k) ms kept m low h)

  pub marks-back : (ms : List EdgeMark) (kept : ℕ) → IsMark n edges m → AreEdgeMarks n edges ms → kept < length ms → get_or ms kept m ≡ m → AreEdgeMarks m.terms (take m.edges edges) (take kept ms)
  marks-back [] kept at ok h is = absurd (omega arith)
  marks-back (k ∷ ms) zero at ok h is = tt
  marks-back (k ∷ ms) (suc kept) at ok h is =
      let b : IsBefore k m = before-at k ms kept ok.1 (omega arith) is in (
        record {
          few_terms = b.few_terms;
          few_edges = let l = length-take-le m.edges edges at.few_edges in let j = b.few_edges in omega (arith, l, j);
          apart = subst (λ l. EdgesAreApart k.terms (reverse l)) (sym (take-take k.edges m.edges edges b.few_edges)) ok.0.apart;
        },
        All-take (IsBefore k) kept ms ok.1,
        marks-back ms kept at ok.2 (omega arith) is,
      )

  pub states-back : (ms : List EdgeMark) (kept : ℕ) → AreEdgeMarks n edges ms → kept < length ms → get_or ms kept m ≡ m → map (state_at (take m.edges edges)) (take kept ms) ≡ take kept (map (state_at edges) ms)
  states-back [] kept ok h is = absurd (omega arith)
  states-back (k ∷ ms) zero ok h is = refl
  states-back (k ∷ ms) (suc kept) ok h is =
      let b : IsBefore k m = before-at k ms kept ok.1 (omega arith) is in
      λ i. record { terms = k.terms; edges = reverse (take-take k.edges m.edges edges b.few_edges i) } ∷ states-back ms kept ok.2 (omega arith) is i
