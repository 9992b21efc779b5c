-- The terms that a whole text assumes are those of its commands.
use Rattle.std.proofs.Common.{◌≡◌, ℕ, Bool, true, false, List, [], ◌∷◌, ◌++◌, None, refl, sym, ap, ◌∙◌, append-nil, append_assoc}
use Rattle.std.specs.Prelude.{Ok}
use Rattle.spec_text.specs.Lexemes.{Lexeme, opens, closes}
use Rattle.spec_text.specs.Trees.{Tree, Trees, atom, list, none, more, spelled, spelled_all}
use Rattle.spec_sorts.specs.Written.{Built, with_lexeme, built}
use Rattle.spec_proofs.specs.Texts.{all_lexemes, begins_listed, AreAllCommands, IsWholeText}
use Rattle.spec_checking.specs.Commands.{Known, Command}
use Rattle.spec_checking.specs.Good.{commands_in}
use Rattle.spec_checking.specs.Assumes.{trees_listed, commands_of_text, terms_assumed, assumed_by, assumed_in}

-- trees before others
abbrev followed : Trees → Trees → Trees
followed none us = us
followed (more t ts) us = more t (followed ts us)

followed_none : (ts : Trees) → followed ts none ≡ ts
followed_none none = refl
followed_none (more t ts) = ap (more t) (followed_none ts)

-- trees before what is built of the lexemes after them
abbrev over : Trees → Built → Built
over ts b = record { here = followed ts b.here; around = b.around }

mutual
  unfolding built

  tree_built : (t : Tree) (xs : List (ℕ × Lexeme)) → built (spelled t ++ xs) ≡ over (more t none) (built xs)
  tree_built (atom at k n) xs = refl
  tree_built (list at us end) xs =
      let behind : List (ℕ × Lexeme) = (end, closes) ∷ xs in
      ap (λ ys. with_lexeme at opens (built ys)) (append_assoc (spelled_all us) ((end, closes) ∷ []) xs)
      ∙ ap (with_lexeme at opens) (trees_built us behind)
      ∙ ap (λ ts. over (more (list at ts end) none) (built xs)) (followed_none us)

  trees_built : (ts : Trees) (xs : List (ℕ × Lexeme)) → built (spelled_all ts ++ xs) ≡ over ts (built xs)
  trees_built none xs = refl
  trees_built (more t ts) xs =
      ap built (append_assoc (spelled t) (spelled_all ts) xs)
      ∙ tree_built t (spelled_all ts ++ xs)
      ∙ ap (over (more t none)) (trees_built ts xs)

-- nothing comes after nothing
end_built : (built []).here ≡ none
unfolding built
end_built = refl

all_built : (ts : Trees) → (built (spelled_all ts)).here ≡ ts
all_built ts =
    ap (λ ys. (built ys).here) (sym (append-nil (spelled_all ts)))
    ∙ ap (λ (b : Built). b.here) (trees_built ts [])
    ∙ ap (followed ts) end_built
    ∙ followed_none ts

listed : (b : Bool) (xs : List (ℕ × Lexeme)) (ts : Trees) → AreAllCommands b xs ts → trees_listed b (built xs).here ≡ ts
listed false xs ts e = ap (λ ys. (built ys).here) e ∙ all_built ts
listed true xs ts (at, end, e) = ap (λ ys. trees_listed true (built ys).here) (e ∙ sym (append-nil ((at, opens) ∷ spelled_all ts ++ (end, closes) ∷ []))) ∙ ap (trees_listed true) (all_built (more (list at ts end) none))

-- a whole text has no other commands
pub whole_commands : (text : List ℕ) (ts : Trees) → IsWholeText text ts → commands_of_text text ≡ ts
whole_commands text ts h = listed (begins_listed (all_lexemes text)) (all_lexemes text) ts h

-- so it assumes what these do
pub whole_assumes : (k : Known) (text : List ℕ) (ts : Trees) (cs : List Command) → IsWholeText text ts → commands_in None k ts ≡ Ok cs → assumed_in k text ≡ terms_assumed cs
whole_assumes k text ts cs h e = ap (λ us. assumed_by (commands_in None k us)) (whole_commands text ts h) ∙ ap assumed_by e
