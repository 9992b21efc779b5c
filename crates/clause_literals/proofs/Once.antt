-- Clauses with each literal once.
use Rattle.std.proofs.Common.{◌≡◌, ℕ, ◌+◌, ◌<◌, false, List, [], ◌∷◌, ◌++◌, length, get_or, take, sym, ap, ◌∙◌, subst}
use Rattle.std.specs.Prelude.{Vec}
use Rattle.std.specs.declared.alloc.Global.{Global}
use Rattle.std.specs.List.{IsDistinct, AllZip}
use Rattle.std.proofs.lemmas.Bool.{false≢true}
use Rattle.std.proofs.lemmas.List.{get_or-map, length-map, map_push, get_or_default}
use Rattle.std.proofs.lemmas.List.Elements.{All-from_recursion, all_zip_more}
use Rattle.std.proofs.lemmas.Map.Keys.{IsDistinct-head, IsDistinct-tail}
use Rattle.indexmap.specs.IndexSet.{insert_key}
use Rattle.term_core.specs.declared.ids.Lit.{Lit}
use Rattle.term_core.specs.contracts.ids.LitPartialEq.TheImpl.{ghosts}
use Rattle.clause_literals.specs.Literals.{lists, SameLits, HasNoTwice, IsSetOf}
use Rattle.clause_literals.proofs.LiteralLists.{is_equal, adds_by}
use Rattle.clause_literals.proofs.Start.{same_more, taken_more}

-- what a set of literals says of its list
pub once : (ls : List Lit) → IsDistinct ghosts.eq ls → HasNoTwice ls
once [] d = tt
once (l ∷ ls) d = (λ i. false≢true (sym (All-from_recursion (λ y. ghosts.eq l y ≡ false) ls (IsDistinct-head ghosts.eq l ls d) i.0 l i.1) ∙ is_equal l _ (sym i.2)), once ls (IsDistinct-tail ghosts.eq l ls d))

-- one literal more
pub taken : (clause : List Lit) (i : ℕ) (d : Lit) → i < length clause → (old new : List Lit) → new ≡ insert_key ghosts.eq old (get_or clause i d) → SameLits old (take i clause) → SameLits new (take (i + 1) clause)
taken clause i d lt old new e same =
    let l = get_or clause i d in
    let here : l ≡ get_or clause i l = get_or_default clause i d l lt in
    subst (λ (xs : List Lit). SameLits new xs) (sym (taken_more clause i l lt here)) (same_more old new (take i clause) l (adds_by old new l e) same)

abbrev pub to_items : Vec Lit Global → List Lit
to_items w = w.items

-- one clause more
pub each_more : (vs ws new : List (Vec Lit Global)) (i : ℕ) (v w : Vec Lit Global) → i < length vs → v ≡ get_or vs i v → new ≡ ws ++ w ∷ [] → IsSetOf v.items w.items → AllZip IsSetOf (take i (lists vs)) (lists ws) → AllZip IsSetOf (take (i + 1) (lists vs)) (lists new)
each_more vs ws new i v w lt e made set all =
    let here : v.items ≡ get_or (lists vs) i v.items = ap to_items e ∙ sym (get_or-map to_items vs i v v.items lt) in
    let grown : lists new ≡ lists ws ++ w.items ∷ [] = ap lists made ∙ map_push to_items ws w in
    subst (λ (ys : List (List Lit)). AllZip IsSetOf (take (i + 1) (lists vs)) ys) (sym grown) (all_zip_more IsSetOf (lists vs) (lists ws) i v.items w.items (rw length-map lt) here all set)

-- a set of the clause
pub set_of : (clause keys items : List Lit) → items ≡ keys → IsDistinct ghosts.eq keys → SameLits keys clause → IsSetOf clause items
set_of clause keys items e d same = record { once = once items (let P : List Lit → Type 0 = IsDistinct ghosts.eq in subst P (sym e) d); same = subst (λ (ls : List Lit). SameLits ls clause) (sym e) same }

-- the literals of a clause, by its place
pub clause_at : (vs : List (Vec Lit Global)) (i : ℕ) (v : Vec Lit Global) → i < length vs → v ≡ get_or vs i v → v.items ≡ get_or (lists vs) i []
clause_at vs i v lt e = ap to_items e ∙ sym (get_or-map to_items vs i v [] lt)
