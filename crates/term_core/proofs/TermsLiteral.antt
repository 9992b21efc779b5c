-- The literal of a term.
use Rattle.std.proofs.Common.{◌≡◌, ◌<◌, Bool, true, not, ℕ, List, [], ◌∷◌, ◌++◌, length, take, get_or, refl, ap, sym, ◌∙◌, arith}
use Rattle.std.proofs.lemmas.Grind.{common_steps}
use Rattle.std.proofs.lemmas.List.{get_or_append_left}
use Rattle.std.proofs.Math.Seq.{get_or-append_seam}
use Rattle.spec_sorts.specs.Terms.{Term, no_term, of, negated}
use Rattle.spec_sorts.specs.Literals.{Literal, complement, literal_of}
use Rattle.term_core.specs.declared.nodes.Head.{Head as NodeHead}
use Rattle.term_core.specs.declared.nodes.Head.TheVariants as heads
use Rattle.term_core.specs.Tables.{TableView, term_at, IsIn, literal_at, head_meant, clause_at, Shape, shape_term, positive_literal}
use Rattle.term_core.specs.Facts.{IsLiteralAt}
use Rattle.term_core.specs.declared.ids.Lit.{Lit}
use Rattle.term_core.specs.declared.ids.TermId.{TermId}

-- a negation's literal is the complement
pub literal_of-negated : (t : Term) → literal_of (negated t) ≡ complement (literal_of t)
unfolding literal_of
literal_of-negated t = refl

-- what has another head is no negation
pub own : (t : TableView) (h : NodeHead) (ids : List TermId) → (h ≡ heads.Not → ⊥) → literal_of (of (head_meant t h) (clause_at t ids)) ≡ positive_literal (of (head_meant t h) (clause_at t ids))
unfolding literal_of
own t heads.Not ids other = absurd (other refl)
own t _ ids other = refl

abbrev pub signed : Bool → Term → Literal
signed b t = record { atom = t; positive = b }

-- a literal stays where a term comes
pub literal_push : (terms : List Term) (t : Term) (k : ℕ) (l : Lit) → k < length terms → IsLiteralAt terms k l → IsLiteralAt (terms ++ t ∷ []) k l
literal_push terms t k l lt a = record {
  low = a.low;
  same = ap (signed l.positive) (get_or_append_left terms (t ∷ []) no_term l.term.0 (omega (arith, a.low, lt))) ∙ a.same ∙ ap literal_of (sym (get_or_append_left terms (t ∷ []) no_term k lt));
}

-- and where the last terms go
pub literal_take : (terms : List Term) (n k : ℕ) (l : Lit) → k < length (take n terms) → IsLiteralAt terms k l → IsLiteralAt (take n terms) k l
literal_take terms n k l lt a =
    let u : get_or (take n terms) k no_term ≡ get_or terms k no_term = grind (arith, common_steps, lt) in
    let low : l.term.0 < length (take n terms) = omega (arith, a.low, lt) in
    let v : get_or (take n terms) l.term.0 no_term ≡ get_or terms l.term.0 no_term = grind (arith, common_steps, low) in
    record { low = a.low; same = ap (signed l.positive) v ∙ a.same ∙ ap literal_of (sym u) }

-- the literal of the term that comes next
module _ (t : TableView) (s : Shape) where
  abbrev next : List Term
  next = t.terms ++ shape_term t s ∷ []

  last : get_or next (length t.terms) no_term ≡ shape_term t s
  last = get_or-append_seam t.terms (shape_term t s) [] no_term

  -- it is the term, or what is left of the term that it negates
  pub next_own : (s.head ≡ heads.Not → ⊥) → IsLiteralAt next (length t.terms) (record { term = record { 0 = length t.terms }; positive = true })
  next_own other = record {
    low = omega arith;
    same = ap (signed true) last ∙ sym (own t s.head s.arguments other) ∙ ap literal_of (sym last);
  }

  pub next_negated : (x : TermId) (l : Lit) → shape_term t s ≡ negated (term_at t x) → IsIn t l.term → literal_at t l ≡ literal_of (term_at t x)
      → IsLiteralAt next (length t.terms) (record { term = l.term; positive = not l.positive })
  next_negated x l is there same = record {
    low = omega (arith, there);
    same = ap (signed (not l.positive)) (get_or_append_left t.terms (shape_term t s ∷ []) no_term l.term.0 there)
        ∙ ap complement same ∙ sym (literal_of-negated (term_at t x)) ∙ ap literal_of (sym is) ∙ ap literal_of (sym last);
  }
