-- What an item more does to what was read up to here.
use Rattle.std.proofs.Common.{◌≡◌, ℕ, ◌-◌, List, [], ◌∷◌, ◌++◌, length, set, get_or, sym, ap, ◌∙◌, refl, append_assoc, length-append, append-nil, arith}
use Rattle.std.proofs.lemmas.List.{set_at, get_or_at}
use Rattle.spec_text.specs.declared.Kind.{Kind}
use Rattle.spec_text.specs.Lexemes.{opens}
use Rattle.spec_text.specs.Trees.{Tree, Trees, atom, list, none, more, spelled, spelled_all}
use Rattle.smt_sexpr.specs.Means.{flat, flat_all}
use Rattle.smt_sexpr.specs.declared.items.Item.{Item}
use Rattle.smt_sexpr.specs.declared.items.Item.TheVariants.{List as Group}
use Rattle.smt_sexpr.specs.Open.{Context, top, inside, add, push, closed, spelled_in, flat_in, open_in, HoldsContext}

flat_add : (ts : Trees) (t : Tree) → flat_all (add ts t) ≡ flat_all ts ++ flat t
flat_add none t = append-nil (flat t)
flat_add (more u us) t = ap (λ r. flat u ++ r) (flat_add us t) ∙ sym (append_assoc (flat u) (flat_all us) (flat t))

spelled_add : (ts : Trees) (t : Tree) → spelled_all (add ts t) ≡ spelled_all ts ++ spelled t
spelled_add none t = append-nil (spelled t)
spelled_add (more u us) t = ap (λ r. spelled u ++ r) (spelled_add us t) ∙ sym (append_assoc (spelled u) (spelled_all us) (spelled t))

pub flat_push : (c : Context) (t : Tree) → flat_in (push c t) ≡ flat_in c ++ flat t
flat_push (top rows) t = flat_add rows t
flat_push (inside outer at rows) t = ap (λ r. flat_in outer ++ Group at 0 0 ∷ r) (flat_add rows t) ∙ sym (append_assoc (flat_in outer) (Group at 0 0 ∷ flat_all rows) (flat t))

pub spelled_push : (c : Context) (t : Tree) → spelled_in (push c t) ≡ spelled_in c ++ spelled t
spelled_push (top rows) t = spelled_add rows t
spelled_push (inside outer at rows) t = ap (λ r. spelled_in outer ++ (at, opens) ∷ r) (spelled_add rows t) ∙ sym (append_assoc (spelled_in outer) ((at, opens) ∷ spelled_all rows) (spelled t))

pub open_push : (c : Context) (t : Tree) → open_in (push c t) ≡ open_in c
open_push (top rows) t = refl
open_push (inside outer at rows) t = refl

pub holds_word : (c : Context) (its next : List Item) (places bytes : List ℕ) (k : Kind) (at : ℕ) → next ≡ its ++ flat (atom at k bytes) → HoldsContext c its places → HoldsContext (push c (atom at k bytes)) next places
holds_word c its next places bytes k at n h = record {
  items_are = n ∙ ap (λ r. r ++ flat (atom at k bytes)) h.items_are ∙ sym (flat_push c (atom at k bytes));
  open_are = h.open_are ∙ sym (open_push c (atom at k bytes));
}

pub holds_begun : (c : Context) (its next : List Item) (places : List ℕ) (index at : ℕ) → next ≡ its ++ Group at 0 0 ∷ [] → index ≡ length its → HoldsContext c its places → HoldsContext (inside c at none) next (places ++ index ∷ [])
holds_begun c its next places index at n i h = record {
  items_are = n ∙ ap (λ r. r ++ Group at 0 0 ∷ []) h.items_are;
  open_are = ap (λ r. r ++ index ∷ []) h.open_are ∙ ap (λ m. open_in c ++ m ∷ []) (i ∙ ap length h.items_are);
}

-- lists that end alike
snoc_same : (a b : List ℕ) (x y : ℕ) → a ++ x ∷ [] ≡ b ++ y ∷ [] → (a ≡ b) × (x ≡ y)
snoc_same [] [] x y e = (refl, cc)
snoc_same [] (z ∷ b) x y e = absurd (omega (arith, ap length e, length-append b (y ∷ [])))
snoc_same (z ∷ a) [] x y e = absurd (omega (arith, ap length e, length-append a (x ∷ [])))
snoc_same (z ∷ a) (w ∷ b) x y e =
    let r = snoc_same a b x y cc in
    let front : z ≡ w = cc in
    (cc, r.1)

-- the item of the list that ends
pub begun_at : (c : Context) (its : List Item) (places : List ℕ) (place : ℕ) (d : Item) → HoldsContext c its (places ++ place ∷ []) → (at : ℕ) × (get_or its place d ≡ Group at 0 0) × ((end : ℕ) → HoldsContext (closed c end) (set its place (Group at end (length its - place - 1))) places)
begun_at (top rows) its places place d h = absurd (omega (arith, ap length h.open_are, length-append places (place ∷ [])))
begun_at (inside outer at rows) its places place d h =
    let s = snoc_same places (open_in outer) place (length (flat_in outer)) h.open_are in
    let here : length (flat_in outer) ≡ place = sym s.1 in
    let was : get_or its place d ≡ Group at 0 0 = rw h.items_are (get_or_at (flat_in outer) (Group at 0 0) (flat_all rows) d place here) in
    let behind : length its - place - 1 ≡ length (flat_all rows) = omega (arith, ap length h.items_are, length-append (flat_in outer) (Group at 0 0 ∷ flat_all rows), here) in (
      at,
      was,
      λ end. record {
        items_are = rw (behind, h.items_are, set_at (flat_in outer) (Group at 0 0) (flat_all rows) (Group at end (length (flat_all rows))) place here) (sym (flat_push outer (list at rows end)));
        open_are = s.0 ∙ sym (open_push outer (list at rows end));
      },
    )

group_begin : {a e n b f m : ℕ} → Group a e n ≡ Group b f m → a ≡ b
group_begin e = cc

pub holds_ended : (c : Context) (its : List Item) (places : List ℕ) (place end end' at e n below : ℕ) (d : Item) → d ≡ get_or its place d → d ≡ Group at e n → end' ≡ end → below ≡ length its - place - 1 → HoldsContext c its (places ++ place ∷ []) → HoldsContext (closed c end) (set its place (Group at end' below)) places
holds_ended c its places place end end' at e n below d stored is same b h =
    let g = begun_at c its places place d h in
    let begin : at ≡ g.0 = group_begin (sym is ∙ stored ∙ g.1) in
    rw (begin, same, b) (g.2 end)
