-- Trees printed one after the other, with lists of them open.
use Rattle.std.proofs.Common.{◌≡◌, ℕ, ◌+◌, List, [], ◌∷◌, ◌++◌, length, Some, None, refl, sym, ap, ◌∙◌, arith, append_assoc, append-nil}
use Rattle.spec_text.specs.declared.Kind.{Kind}
use Rattle.spec_text.specs.Trees.{Tree, Trees, atom, list, none, more}
use Rattle.spec_text.specs.Printed.{printed_word, printed, printed_all}
use Rattle.smt_sexpr.specs.declared.items.Trees.{Trees as Cursor}
use Rattle.smt_sexpr.specs.Items.{split_first, trees_meant}
use Rattle.smt_sexpr.proofs.Splitting.{split_end, split_more}
use Rattle.sort_check.specs.Walks.{size, sizes}
use Rattle.assertion_stack.specs.Printing.{printed_after, printed_open, open_left}

-- a tree, and what comes after it
pub one_after : (t : Tree) (us : Trees) → printed_all (more t us) ≡ printed t ++ printed_after us
one_after t none = sym (append-nil (printed t))
one_after t (more u us) = refl

-- one list more is open
open_push : (cs : List Cursor) (c : Cursor) → printed_open (cs ++ c ∷ []) ≡ (41 ∷ printed_after (trees_meant c)) ++ printed_open cs
open_push [] c = sym (append-nil (41 ∷ printed_after (trees_meant c)))
open_push (d ∷ cs) c =
    ap (λ x. x ++ (41 ∷ printed_after (trees_meant d))) (open_push cs c)
    ∙ append_assoc (41 ∷ printed_after (trees_meant c)) (printed_open cs) (41 ∷ printed_after (trees_meant d))

pub open_left_push : (cs : List Cursor) (c : Cursor) → open_left (cs ++ c ∷ []) ≡ open_left cs + (1 + sizes (trees_meant c))
open_left_push [] c = omega arith
open_left_push (d ∷ cs) c = omega (arith, open_left_push cs c)

-- what was printed, these trees, and what follows open lists come to all
abbrev pub Left : (all out : List ℕ) → Trees → List Cursor → Type 0
Left all out ts cs = all ≡ out ++ (printed_all ts ++ printed_open cs)

-- nothing is printed yet
pub left_begins : (out : List ℕ) (ts : Trees) (cs : List Cursor) → cs ≡ [] → Left (out ++ printed_all ts) out ts cs
left_begins out ts cs e = ap (λ x. out ++ x) (sym (append-nil (printed_all ts)) ∙ ap (λ ds. printed_all ts ++ printed_open ds) (sym e))

module _ (all out : List ℕ) (ts : Trees) (cs : List Cursor) (h : Left all out ts cs) where
  -- no list is open
  pub left_ends : None ≡ split_first ts → length cs ≡ 0 → all ≡ out
  left_ends e none_open = h ∙ ap (λ us. out ++ (printed_all us ++ printed_open cs)) (split_end ts e) ∙ ap (λ x. out ++ x) (nothing_open cs none_open) ∙ append-nil out
    where
      nothing_open : (ds : List Cursor) → length ds ≡ 0 → printed_open ds ≡ []
      nothing_open [] l = refl
      nothing_open (d ∷ ds) l = absurd (omega (arith, l))

  -- this was printed with what comes after it, and what follows it stays
  after : (shown shown_after new : List ℕ) (us : Trees) (ds : List Cursor) → all ≡ out ++ ((shown ++ shown_after) ++ printed_open ds)
      → new ++ printed_all us ≡ out ++ (shown ++ shown_after) → Left all new us ds
  after shown shown_after new us ds a g =
      a ∙ sym (append_assoc out (shown ++ shown_after) (printed_open ds)) ∙ ap (λ x. x ++ printed_open ds) (sym g) ∙ append_assoc new (printed_all us) (printed_open ds)

  -- the innermost list ends
  pub left_pops : None ≡ split_first ts → (init : List Cursor) (outer : Cursor) → cs ≡ init ++ outer ∷ [] → (new : List ℕ)
      → new ++ printed_all (trees_meant outer) ≡ out ++ (41 ∷ printed_after (trees_meant outer)) → Left all new (trees_meant outer) init
  left_pops e init outer o new g =
      after (41 ∷ []) (printed_after (trees_meant outer)) new (trees_meant outer) init
      (h ∙ (λ i. out ++ (printed_all (split_end ts e i) ++ printed_open (o i))) ∙ ap (λ x. out ++ x) (open_push init outer)) g

  module _ (t : Tree) (us : Trees) (e : Some (t, us) ≡ split_first ts) where
    opened : (u : Tree) → u ≡ t → all ≡ out ++ ((printed u ++ printed_after us) ++ printed_open cs)
    opened u is =
        h ∙ ap (λ vs. out ++ (printed_all vs ++ printed_open cs)) (split_more ts us t e) ∙ ap (λ x. out ++ (x ++ printed_open cs)) (one_after t us)
        ∙ ap (λ v. out ++ ((printed v ++ printed_after us) ++ printed_open cs)) (sym is)

    -- an atom is printed
    pub left_atom : (place : ℕ) (k : Kind) (n : List ℕ) → atom place k n ≡ t → (new : List ℕ) → new ++ printed_all us ≡ out ++ (printed_word k n ++ printed_after us) → Left all new us cs
    left_atom place k n is new g = after (printed_word k n) (printed_after us) new us cs (opened (atom place k n) is) g

    -- a list opens
    pub left_list : (place end : ℕ) (inside : Trees) → list place inside end ≡ t → (others : Cursor) → trees_meant others ≡ us → (more_open : List Cursor) → more_open ≡ cs ++ others ∷ []
        → (new : List ℕ) → new ≡ out ++ 40 ∷ [] → Left all new inside more_open
    left_list place end inside is others o more_open m new g =
        let behind = 41 ∷ printed_after us in
        opened (list place inside end) is
        ∙ ap (λ x. out ++ (40 ∷ (x ++ printed_open cs))) (append_assoc (printed_all inside) (41 ∷ []) (printed_after us))
        ∙ ap (λ x. out ++ (40 ∷ x)) (append_assoc (printed_all inside) behind (printed_open cs))
        ∙ sym (append_assoc out (40 ∷ []) (printed_all inside ++ (behind ++ printed_open cs)))
        ∙ ap (λ x. (out ++ 40 ∷ []) ++ (printed_all inside ++ x)) (ap (λ vs. (41 ∷ printed_after vs) ++ printed_open cs) (sym o) ∙ sym (open_push cs others) ∙ ap printed_open (sym m))
        ∙ ap (λ x. x ++ (printed_all inside ++ printed_open more_open)) (sym g)

-- what is left gets less
pub less_list : (ts us : Trees) (t : Tree) → Some (t, us) ≡ split_first ts → (place end : ℕ) (inside : Trees) → list place inside end ≡ t → sizes ts ≡ 2 + sizes inside + sizes us
less_list ts us t e place end inside is = ap sizes (split_more ts us t e) ∙ ap (λ u. size u + sizes us) (sym is)

pub less_end : (ts : Trees) → None ≡ split_first ts → sizes ts ≡ 0
less_end ts e = ap sizes (split_end ts e)
