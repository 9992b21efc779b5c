-- Names that are given in texts, looked for one by one.
use Rattle.std.proofs.Common.{◌≡◌, ℕ, ◌+◌, Bool, true, false, ◌||◌, List, [], ◌∷◌, ◌++◌, length, Some, None, refl, sym, ap, ◌∙◌, arith}
use Rattle.std.specs.Prelude.{◌==◌, Result, Ok, Err, IfOk}
use Rattle.no_memory.specs.declared.NoMemory.{NoMemory}
use Rattle.spec_text.specs.declared.Kind.{Kind}
use Rattle.spec_text.specs.Trees.{Tree, Trees, atom, list, none, more}
use Rattle.spec_text.specs.Shapes.{Word}
use Rattle.spec_sorts.specs.Forms.{Next, named_words}
use Rattle.spec_commands.specs.Labels.{names_given}
use Rattle.spec_checking.specs.Reading.{named_in, named_in_all, one_is_at}
use Rattle.smt_sexpr.specs.declared.items.Trees.{Trees as Cursor}
use Rattle.smt_sexpr.specs.Items.{split_first, trees_meant}
use Rattle.smt_sexpr.proofs.Splitting.{split_end, split_more}
use Rattle.sort_check.specs.Naming.{wanted_word, next_word, listed_word}
use Rattle.sort_check.specs.Walks.{size, sizes}
use Rattle.sort_check.proofs.NamesGiven.{words_next, no_words}
use Rattle.alethe_reader.specs.Naming.{one_open_at, open_left}

or_along : (a b c : Bool) → (a || (b || c)) ≡ ((a || b) || c)
or_along true b c = refl
or_along false b c = refl

or_other : (a b : Bool) → (a || b) ≡ (b || a)
or_other true true = refl
or_other true false = refl
or_other false true = refl
or_other false false = refl

-- one of words before others
one_in_both : (at : ℕ) (ws us : List Word) → one_is_at (ws ++ us) at ≡ (one_is_at ws at || one_is_at us at)
one_in_both at [] us = refl
one_in_both at (w ∷ ws) us = ap (λ b. w.at == at || b) (one_in_both at ws us) ∙ or_along (w.at == at) (one_is_at ws at) (one_is_at us at)

module _ (at : ℕ) (next : Next) (ts : Trees) where
  -- no attribute is left
  pub none_named : None ≡ split_first ts → one_is_at (named_words next ts) at ≡ false
  none_named e = ap (λ us. one_is_at (named_words next us) at) (split_end ts e) ∙ ap (λ ws. one_is_at ws at) (no_words next)

  module _ (t : Tree) (us : Trees) (e : Some (t, us) ≡ split_first ts) where
    both_named : one_is_at (named_words next ts) at ≡ (one_is_at (listed_word (wanted_word next t)) at || one_is_at (named_words (next_word next t) us) at)
    both_named =
        ap (λ vs. one_is_at (named_words next vs) at) (split_more ts us t e) ∙ ap (λ ws. one_is_at ws at) (words_next next t us)
        ∙ one_in_both at (listed_word (wanted_word next t)) (named_words (next_word next t) us)

    -- the word that is next is at the offset
    pub here_named : true ≡ one_is_at (listed_word (wanted_word next t)) at → one_is_at (named_words next ts) at ≡ true
    here_named h = both_named ∙ ap (λ b. b || one_is_at (named_words (next_word next t) us) at) (sym h)

    -- it is not, so those after it are
    pub later_named : (then : Next) → then ≡ next_word next t → false ≡ one_is_at (listed_word (wanted_word next t)) at → one_is_at (named_words next ts) at ≡ one_is_at (named_words then us) at
    later_named then n h = both_named ∙ ap (λ b. b || one_is_at (named_words (next_word next t) us) at) (sym h) ∙ ap (λ m. one_is_at (named_words m us) at) (sym n)

-- one row of texts more is open
open_push : (at : ℕ) (cs : List Cursor) (c : Cursor) → one_open_at at (cs ++ c ∷ []) ≡ (one_open_at at cs || one_is_at (named_in_all (trees_meant c)) at)
open_push at [] c = or_other (one_is_at (named_in_all (trees_meant c)) at) false
open_push at (d ∷ cs) c = ap (λ b. one_is_at (named_in_all (trees_meant d)) at || b) (open_push at cs c) ∙ or_along (one_is_at (named_in_all (trees_meant d)) at) (one_open_at at cs) (one_is_at (named_in_all (trees_meant c)) at)

pub open_left_push : (cs : List Cursor) (c : Cursor) → open_left (cs ++ c ∷ []) ≡ open_left cs + (1 + sizes (trees_meant c))
open_left_push [] c = omega arith
open_left_push (d ∷ cs) c = omega (arith, open_left_push cs c)

module _ (at : ℕ) where
  abbrev named_at : Trees → Bool
  named_at ts = one_is_at (named_in_all ts) at

  none_at : named_at none ≡ false
  unfolding named_in_all
  none_at = refl

  atom_at : (place : ℕ) (k : Kind) (n : List ℕ) (us : Trees) → named_at (more (atom place k n) us) ≡ named_at us
  unfolding named_in_all named_in
  atom_at place k n us = refl

  list_in_at : (place end : ℕ) (inside : Trees) → one_is_at (named_in (list place inside end)) at ≡ (one_is_at (names_given inside) at || named_at inside)
  unfolding named_in
  list_in_at place end inside = one_in_both at (names_given inside) (named_in_all inside)

  list_at : (place end : ℕ) (inside us : Trees) → named_at (more (list place inside end) us) ≡ ((one_is_at (names_given inside) at || named_at inside) || named_at us)
  unfolding named_in_all
  list_at place end inside us =
      one_in_both at (named_in (list place inside end)) (named_in_all us) ∙ ap (λ b. b || named_at us) (list_in_at place end inside)

  -- an atom gives no name
  pub atom_names : (t : Tree) (place : ℕ) (k : Kind) (n : List ℕ) → atom place k n ≡ t → one_is_at (named_in t) at ≡ false
  unfolding named_in
  atom_names t place k n e = ap (λ u. one_is_at (named_in u) at) (sym e)

  -- the names of a list are those of its term, and those in it
  pub list_names : (t : Tree) (place end : ℕ) (inside : Trees) → list place inside end ≡ t → one_is_at (named_in t) at ≡ (one_is_at (names_given inside) at || named_at inside)
  list_names t place end inside e = ap (λ u. one_is_at (named_in u) at) (sym e) ∙ list_in_at place end inside

  -- where the names of its term are elsewhere, those in it are given
  pub text_by : (t : Tree) (place end : ℕ) (inside : Trees) → list place inside end ≡ t → false ≡ one_is_at (names_given inside) at → (r : Result Bool NoMemory)
      → IfOk r (λ yes. yes ≡ named_at inside) → IfOk r (λ yes. yes ≡ one_is_at (named_in t) at)
  text_by t place end inside e g (Ok so) h = h ∙ ap (λ b. b || named_at inside) g ∙ sym (list_names t place end inside e)
  text_by t place end inside e g (Err x) h = tt

  -- one row is read, besides those that are open: together they are all
  abbrev pub Rest : Bool → Trees → List Cursor → Type 0
  Rest all ts cs = all ≡ (named_at ts || one_open_at at cs)

  module _ (all : Bool) (ts : Trees) (cs : List Cursor) (h : Rest all ts cs) where
    pub rest_ends : None ≡ split_first ts → length cs ≡ 0 → all ≡ false
    rest_ends e none_open = h ∙ (λ i. named_at (split_end ts e i) || one_open_at at cs) ∙ ap (λ b. b || one_open_at at cs) none_at ∙ nothing_open cs none_open
      where
        nothing_open : (ds : List Cursor) → length ds ≡ 0 → one_open_at at ds ≡ false
        nothing_open [] l = refl
        nothing_open (d ∷ ds) l = absurd (omega (arith, l))

    pub rest_pops : None ≡ split_first ts → (init : List Cursor) (outer : Cursor) → cs ≡ init ++ outer ∷ [] → Rest all (trees_meant outer) init
    rest_pops e init outer o =
        h ∙ (λ i. named_at (split_end ts e i) || one_open_at at (o i)) ∙ ap (λ b. b || one_open_at at (init ++ outer ∷ [])) none_at
        ∙ open_push at init outer ∙ or_other (one_open_at at init) (named_at (trees_meant outer))

    module _ (t : Tree) (us : Trees) (e : Some (t, us) ≡ split_first ts) where
      pub rest_atom : (place : ℕ) (k : Kind) (n : List ℕ) → atom place k n ≡ t → Rest all us cs
      rest_atom place k n is =
          h ∙ ap (λ vs. named_at vs || one_open_at at cs) (split_more ts us t e) ∙ ap (λ u. named_at (more u us) || one_open_at at cs) (sym is)
          ∙ ap (λ b. b || one_open_at at cs) (atom_at place k n us)

      module _ (place end : ℕ) (inside : Trees) (is : list place inside end ≡ t) where
        opened : all ≡ (((one_is_at (names_given inside) at || named_at inside) || named_at us) || one_open_at at cs)
        opened =
            h ∙ ap (λ vs. named_at vs || one_open_at at cs) (split_more ts us t e) ∙ ap (λ u. named_at (more u us) || one_open_at at cs) (sym is)
            ∙ ap (λ b. b || one_open_at at cs) (list_at place end inside us)

        pub rest_named : true ≡ one_is_at (names_given inside) at → all ≡ true
        rest_named g = opened ∙ ap (λ b. ((b || named_at inside) || named_at us) || one_open_at at cs) (sym g)

        pub rest_list : false ≡ one_is_at (names_given inside) at → (others : Cursor) → trees_meant others ≡ us → (more_open : List Cursor) → more_open ≡ cs ++ others ∷ [] → Rest all inside more_open
        rest_list g others o more_open m =
            opened ∙ ap (λ b. ((b || named_at inside) || named_at us) || one_open_at at cs) (sym g) ∙ sym (or_along (named_at inside) (named_at us) (one_open_at at cs))
            ∙ ap (λ b. named_at inside || b) (or_other (named_at us) (one_open_at at cs) ∙ ap (λ vs. one_open_at at cs || named_at vs) (sym o) ∙ sym (open_push at cs others) ∙ ap (one_open_at at) (sym m))

-- what is left gets less
module _ (ts us : Trees) (t : Tree) (e : Some (t, us) ≡ split_first ts) where
  pub less_atom : (place : ℕ) (k : Kind) (n : List ℕ) → atom place k n ≡ t → sizes ts ≡ 1 + sizes us
  less_atom place k n is = ap sizes (split_more ts us t e) ∙ ap (λ u. size u + sizes us) (sym is)
