-- Where the reading of trees stops: lexemes are one row of trees up to what no tree begins.
use Rattle.std.proofs.Common.{◌≡◌, ℕ, List, [], ◌++◌, length, Option, Some, None, inl, inr, refl, sym, ap, ◌∙◌, append_assoc, subst}
use Rattle.spec_text.specs.Lexemes.{Lexeme}
use Rattle.spec_text.specs.Trees.{Tree, Trees, atom, list, none, more, spelled, spelled_all}
use Rattle.spec_text.specs.Faults.{Located, first_fault}
use Rattle.spec_text.specs.Readings.{BeginsNoTree, EndsTrees, StopsAt, kept, limited, is_long, IsReadUpTo}
use Rattle.spec_text.proofs.Reading.{same_first}

-- what begins with a tree is not what begins with none
no_more : (u : Tree) (us : Trees) (xs ys : List (ℕ × Lexeme)) → BeginsNoTree xs → xs ≡ (spelled u ++ spelled_all us) ++ ys → ⊥
no_more u us xs ys free e = free u (spelled_all us ++ ys) (e ∙ append_assoc (spelled u) (spelled_all us) ys)

-- two rows of trees before what begins with none are one
pub one_row : (ts us : Trees) (xs ys : List (ℕ × Lexeme)) → BeginsNoTree xs → BeginsNoTree ys → spelled_all ts ++ xs ≡ spelled_all us ++ ys → (ts ≡ us) × (xs ≡ ys)
one_row none none xs ys free free_too e = (refl, e)
one_row none (more u us) xs ys free free_too e = absurd (no_more u us xs ys free e)
one_row (more t ts) none xs ys free free_too e = absurd (no_more t ts ys xs free_too (sym e))
one_row (more t ts) (more u us) xs ys free free_too e =
    let s = same_first t u (spelled_all ts ++ xs) (spelled_all us ++ ys) (sym (append_assoc (spelled t) (spelled_all ts) xs) ∙ e ∙ append_assoc (spelled u) (spelled_all us) ys) in
    let r = one_row ts us xs ys free free_too s.1 in
    (ap (λ x. more x ts) s.0 ∙ ap (more u) r.0, r.1)

-- no tree comes before nothing
pub nothing_begins_no_tree : BeginsNoTree []
nothing_begins_no_tree (atom at k bytes) ys e = cc
nothing_begins_no_tree (list at ts end) ys e = cc

-- what stops a reading begins with no tree
stop_begins_no_tree : (end : ℕ) (rest : List (ℕ × Lexeme)) (stop : Option Located) → EndsTrees end rest stop → BeginsNoTree rest
stop_begins_no_tree end rest None e = subst BeginsNoTree (sym e) nothing_begins_no_tree
stop_begins_no_tree end rest (Some f) b = b.no_tree

-- what stops it is one
one_stop : (end : ℕ) (rest : List (ℕ × Lexeme)) (f g : Option Located) → EndsTrees end rest f → EndsTrees end rest g → f ≡ g
unfolding first_fault
one_stop end rest None None a b = refl
one_stop end rest (Some f) (Some g) a b = sym a.fault ∙ b.fault
one_stop end rest None (Some g) a b = sym (ap (first_fault end 0) a) ∙ b.fault
one_stop end rest (Some f) None a b = sym a.fault ∙ ap (first_fault end 0) b

-- a text is read up to one end
pub one_end : (text : List ℕ) (ts us : Trees) (f g : Option Located) → IsReadUpTo text ts f → IsReadUpTo text us g → (ts ≡ us) × (f ≡ g)
one_end text ts us f g a b =
    let end = length (kept text) in
    let row = one_row ts us a.rest b.rest (stop_begins_no_tree end a.rest a.stop a.stops) (stop_begins_no_tree end b.rest b.stop b.stops) (sym a.trees ∙ b.trees) in
    let stop = one_stop end b.rest a.stop b.stop (subst (λ r. EndsTrees end r a.stop) row.1 a.stops) b.stops in
    (row.0, a.is ∙ ap (limited (is_long text)) stop ∙ sym b.is)

-- what stops trees that are in no list ends the text
pub stop_of : (end : ℕ) (rest : List (ℕ × Lexeme)) → StopsAt end 0 rest → (stop : Option Located) × EndsTrees end rest stop
stop_of end rest (inl x) = (None, x.1)
stop_of end rest (inr (inl x)) = absurd (x.0 refl)
stop_of end rest (inr (inr x)) = (Some x.0, x.1)
