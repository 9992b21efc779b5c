-- Keywords with their values, pair by pair.
use Rattle.std.proofs.Common.{◌≡◌, Some, None, refl, sym, ap, ◌∙◌}
use Rattle.spec_text.specs.declared.Kind.TheVariants.{Keyword}
use Rattle.spec_text.specs.Bytes.{Name}
use Rattle.spec_text.specs.Trees.{Tree, Trees, atom, list, none, more}
use Rattle.spec_text.specs.Shapes.{◌>>=◌}
use Rattle.spec_checking.specs.Commands.{Keywords, with_keyword, keywords_in}
use Rattle.smt_sexpr.specs.Items.{split_first}
use Rattle.alethe_reader.specs.Shapes.{keyword_in}
use Rattle.smt_sexpr.proofs.Splitting.{split_end, split_more}

module _ (p : Keywords) where
  none_left : keywords_in p none ≡ Some p
  unfolding keywords_in
  none_left = refl

  half_left : (key : Tree) → keywords_in p (more key none) ≡ None
  unfolding keywords_in
  half_left key = refl

  -- what a keyword and its value leave for the others
  pair_left : (key t : Tree) (us : Trees) → keywords_in p (more key (more t us)) ≡ (keyword_in key >>= λ n. with_keyword p n t >>= λ q. keywords_in q us)
  unfolding keywords_in
  pair_left (list at vs end) t us = refl
  pair_left (atom at Keyword n) t us = refl
  pair_left (atom at _ n) t us = refl

  pub keywords_end : (ts : Trees) → None ≡ split_first ts → keywords_in p ts ≡ Some p
  keywords_end ts e = ap (keywords_in p) (split_end ts e) ∙ none_left

  pub keywords_half : (ts us : Trees) (key : Tree) → Some (key, us) ≡ split_first ts → None ≡ split_first us → keywords_in p ts ≡ None
  keywords_half ts us key e f = ap (keywords_in p) (split_more ts us key e) ∙ ap (λ vs. keywords_in p (more key vs)) (split_end us f) ∙ half_left key

  module _ (ts us vs : Trees) (key t : Tree) (first : Some (key, us) ≡ split_first ts) (second : Some (t, vs) ≡ split_first us) where
    pair_first : keywords_in p ts ≡ (keyword_in key >>= λ n. with_keyword p n t >>= λ q. keywords_in q vs)
    pair_first = ap (keywords_in p) (split_more ts us key first) ∙ ap (λ ws. keywords_in p (more key ws)) (split_more us vs t second) ∙ pair_left key t vs

    pub keywords_no_keyword : None ≡ keyword_in key → keywords_in p ts ≡ None
    keywords_no_keyword e = pair_first ∙ ap (λ o. o >>= λ n. with_keyword p n t >>= λ q. keywords_in q vs) (sym e)

    pub keywords_refused : (n : Name) → Some n ≡ keyword_in key → None ≡ with_keyword p n t → keywords_in p ts ≡ None
    keywords_refused n e f = pair_first ∙ ap (λ o. o >>= λ m. with_keyword p m t >>= λ q. keywords_in q vs) (sym e) ∙ ap (λ o. o >>= λ q. keywords_in q vs) (sym f)

    pub keywords_more : (n : Name) (q : Keywords) → Some n ≡ keyword_in key → Some q ≡ with_keyword p n t → keywords_in p ts ≡ keywords_in q vs
    keywords_more n q e f = pair_first ∙ ap (λ o. o >>= λ m. with_keyword p m t >>= λ r. keywords_in r vs) (sym e) ∙ ap (λ o. o >>= λ r. keywords_in r vs) (sym f)
