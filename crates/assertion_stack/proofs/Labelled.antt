-- The first name among attributes, looked for one by one.
use Rattle.std.proofs.Common.{◌≡◌, List, [], ◌∷◌, ◌++◌, Option, Some, None, refl, sym, ap, ◌∙◌}
use Rattle.spec_text.specs.Bytes.{Name}
use Rattle.spec_text.specs.Shapes.{Word}
use Rattle.spec_text.specs.Trees.{Tree, Trees}
use Rattle.spec_sorts.specs.Forms.{Next, named_words}
use Rattle.spec_commands.specs.Labels.{first_name_of}
use Rattle.smt_sexpr.specs.Items.{split_first}
use Rattle.smt_sexpr.proofs.Splitting.{split_end, split_more}
use Rattle.sort_check.specs.Naming.{wanted_word, next_word, listed_word}
use Rattle.sort_check.proofs.NamesGiven.{words_next, no_words}

-- the first of words after others
first_before : (ws us : List Word) (n : Name) → Some n ≡ first_name_of ws → first_name_of (ws ++ us) ≡ Some n
first_before [] us n e = cc
first_before (w ∷ ws) us n e = sym e

first_behind : (o : Option Word) (us : List Word) → None ≡ first_name_of (listed_word o) → first_name_of (listed_word o ++ us) ≡ first_name_of us
first_behind None us e = refl
first_behind (Some w) us e = cc

module _ (next : Next) (ts : Trees) where
  -- no attribute is left
  pub none_labelled : None ≡ split_first ts → first_name_of (named_words next ts) ≡ None
  none_labelled e = ap (λ us. first_name_of (named_words next us)) (split_end ts e) ∙ ap first_name_of (no_words next)

  module _ (t : Tree) (us : Trees) (e : Some (t, us) ≡ split_first ts) where
    both : first_name_of (named_words next ts) ≡ first_name_of (listed_word (wanted_word next t) ++ named_words (next_word next t) us)
    both = ap (λ vs. first_name_of (named_words next vs)) (split_more ts us t e) ∙ ap first_name_of (words_next next t us)

    -- the word that is next is the first
    pub here_labelled : (n : Name) → Some n ≡ first_name_of (listed_word (wanted_word next t)) → first_name_of (named_words next ts) ≡ Some n
    here_labelled n h = both ∙ first_before (listed_word (wanted_word next t)) (named_words (next_word next t) us) n h

    -- none is next, so it is the first of those after it
    pub later_labelled : (then : Next) → then ≡ next_word next t → None ≡ first_name_of (listed_word (wanted_word next t)) → first_name_of (named_words next ts) ≡ first_name_of (named_words then us)
    later_labelled then n h = both ∙ first_behind (wanted_word next t) (named_words (next_word next t) us) h ∙ ap (λ m. first_name_of (named_words m us)) (sym n)
