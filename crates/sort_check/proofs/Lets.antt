-- The bindings of a `let`, one after the other, and its body.
use Rattle.std.proofs.Common.{◌≡◌, ℕ, ◌+◌, arith, List, [], ◌∷◌, ◌++◌, Option, Some, None, refl, ap, sym, ◌∙◌, append_assoc, append-nil}
use Rattle.std.specs.Prelude.{Result, Ok, Err}
use Rattle.std.proofs.lemmas.List.{map-append}
use Rattle.spec_text.specs.Bytes.{Name}
use Rattle.spec_text.specs.Shapes.{Word}
use Rattle.spec_text.specs.Faults.{Located}
use Rattle.spec_text.specs.Answers.{Answer, ◌>>=◌, refused}
use Rattle.spec_text.specs.declared.Fault.TheVariants.{BadShape}
use Rattle.spec_text.specs.Trees.{Tree, Trees, atom, list, none, more}
use Rattle.spec_sorts.specs.Terms.{Term}
use Rattle.spec_sorts.specs.Signatures.{Definition, Signature, with_definitions}
use Rattle.spec_reading.specs.Names.{Setting, new_name, is_in_list}
use Rattle.spec_reading.specs.Reading.{Bound, bound_names, Reading, Readings, Bindings, reading, readings, let_reading, bindings_reading}
use Rattle.spec_reading.proofs.Values.{with_both}
use Rattle.sort_check.specs.Splitting.{first_binding, let_parts}
use Rattle.sort_check.specs.Walks.{after_made, first_term, let_from, size, sizes}
use Rattle.sort_check.proofs.Rows.{with_no, one_text}

-- two steps, and what comes of the second
pub in_two : {A B C E : Type 0} (a : Result A E) (f : A → Result B E) (g : B → Result C E) → ((a >>= f) >>= g) ≡ (a >>= λ x. f x >>= g)
unfolding ◌>>=◌
in_two (Ok x) f g = refl
in_two (Err e) f g = refl

module _ (w : Setting) where
  -- bindings by the first of them
  abbrev pub bindings_by : Signature → Bound → List Name → Option (Word × (Tree × Trees)) → Answer Bindings
  bindings_by s b names (Some p) =
      new_name w (is_in_list names) p.0 >>= λ name.
      reading w s b p.1.0 >>= λ r.
      bindings_reading w (with_definitions s r.made) b (names ++ name ∷ []) p.1.1 >>= λ rs.
      Ok (record { made = r.made ++ rs.made; bound = (name, r.term) ∷ rs.bound })
  bindings_by s b names None = Ok (record { made = []; bound = [] })

  pub bindings_are : (s : Signature) (b : Bound) (names : List Name) (ts : Trees) → bindings_reading w s b names ts ≡ bindings_by s b names (first_binding ts)
  unfolding bindings_reading first_binding
  bindings_are s b names none = refl
  bindings_are s b names (more (atom at k n) rest) = refl
  bindings_are s b names (more (list at none end) rest) = refl
  bindings_are s b names (more (list at (more (list x us y) ts) end) rest) = refl
  bindings_are s b names (more (list at (more (atom x k n) none) end) rest) = refl
  bindings_are s b names (more (list at (more (atom x k n) (more t none)) end) rest) = refl
  bindings_are s b names (more (list at (more (atom x k n) (more t (more u us))) end) rest) = refl

  -- the names with one more
  names_more : (earlier : Bound) (n : Name) (u : Term) → bound_names (earlier ++ (n, u) ∷ []) ≡ bound_names earlier ++ n ∷ []
  names_more earlier n u = map-append (λ (p : Name × Term). p.0) earlier ((n, u) ∷ [])

  -- what comes after a binding whose term was read
  abbrev pub let_after : Signature → Bound → Bound → Name → Trees × Tree → List Definition → Term → Answer Reading
  let_after s b earlier n p made u = let_from w (with_definitions s made) b (earlier ++ (n, u) ∷ []) p >>= λ y. Ok (after_made made y)

  -- a binding comes next
  pub let_next : (s : Signature) (b earlier : Bound) (bindings : Trees) (body : Tree) (x : Word) (t : Tree) (left : Trees) (n : Name) → first_binding bindings ≡ Some (x, (t, left))
      → new_name w (is_in_list (bound_names earlier)) x ≡ Ok n
      → let_from w s b earlier (bindings, body) ≡ (readings w s b (more t none) >>= λ r. let_after s b earlier n (left, body) r.made (first_term r.terms))
  unfolding ◌>>=◌
  let_next s b earlier bindings body x t left n first fresh =
      ap (λ a. a >>= whole) (bindings_are s b (bound_names earlier) bindings ∙ ap (bindings_by s b (bound_names earlier)) first)
      ∙ ap (λ a. (a >>= λ name. reading w s b t >>= λ r. later name r) >>= whole) fresh
      ∙ go (reading w s b t)
      ∙ ap (λ a. a >>= λ r. let_after s b earlier n (left, body) r.made (first_term r.terms)) (sym (one_text w s b t))
    where
      whole : Bindings → Answer Reading
      whole rs = reading w (with_definitions s rs.made) ((earlier ++ rs.bound) ++ b) body >>= λ v. Ok (after_made rs.made v)

      later : Name → Reading → Answer Bindings
      later name r = bindings_reading w (with_definitions s r.made) b (bound_names earlier ++ name ∷ []) left >>= λ rs. Ok (record { made = r.made ++ rs.made; bound = (name, r.term) ∷ rs.bound })

      in_body : (r : Reading) (rs : Bindings) → whole (record { made = r.made ++ rs.made; bound = (n, r.term) ∷ rs.bound })
          ≡ ((reading w (with_definitions (with_definitions s r.made) rs.made) (((earlier ++ (n, r.term) ∷ []) ++ rs.bound) ++ b) body >>= λ v. Ok (after_made rs.made v)) >>= λ y. Ok (after_made r.made y))
      in_body r rs =
          (λ i. reading w (with_both s r.made rs.made i) (sym (append_assoc earlier ((n, r.term) ∷ []) rs.bound) i ++ b) body >>= λ v. Ok (after_made (r.made ++ rs.made) v))
          ∙ go_body (reading w (with_definitions (with_definitions s r.made) rs.made) (((earlier ++ (n, r.term) ∷ []) ++ rs.bound) ++ b) body)
        where
          go_body : (a : Answer Reading) → (a >>= λ v. Ok (after_made (r.made ++ rs.made) v)) ≡ ((a >>= λ v. Ok (after_made rs.made v)) >>= λ y. Ok (after_made r.made y))
          go_body (Err e) = refl
          go_body (Ok v) = λ i. Ok (record { made = append_assoc r.made rs.made v.made i; term = v.term })

      in_bindings : (r : Reading) (a : Answer Bindings) → ((a >>= λ rs. Ok (record { made = r.made ++ rs.made; bound = (n, r.term) ∷ rs.bound })) >>= whole)
          ≡ ((a >>= λ rs. reading w (with_definitions (with_definitions s r.made) rs.made) (((earlier ++ (n, r.term) ∷ []) ++ rs.bound) ++ b) body >>= λ v. Ok (after_made rs.made v)) >>= λ y. Ok (after_made r.made y))
      in_bindings r (Err e) = refl
      in_bindings r (Ok rs) = in_body r rs

      go : (a : Answer Reading) → ((a >>= λ r. later n r) >>= whole) ≡ (let z : Answer Readings = (a >>= λ r. Ok (record { made = r.made; terms = r.term ∷ [] })) in z >>= λ r. let_after s b earlier n (left, body) r.made (first_term r.terms))
      go (Err e) = refl
      go (Ok r) =
          in_bindings r (bindings_reading w (with_definitions s r.made) b (bound_names earlier ++ n ∷ []) left)
          ∙ ap (λ ns. (bindings_reading w (with_definitions s r.made) b ns left >>= λ rs. reading w (with_definitions (with_definitions s r.made) rs.made) (((earlier ++ (n, r.term) ∷ []) ++ rs.bound) ++ b) body >>= λ v. Ok (after_made rs.made v)) >>= λ y. Ok (after_made r.made y)) (sym (names_more earlier n r.term))

  -- the name of the binding that comes next has a fault
  pub let_fault : (s : Signature) (b earlier : Bound) (bindings : Trees) (body : Tree) (x : Word) (t : Tree) (left : Trees) (e : Located) → first_binding bindings ≡ Some (x, (t, left))
      → new_name w (is_in_list (bound_names earlier)) x ≡ Err e → let_from w s b earlier (bindings, body) ≡ Err e
  unfolding ◌>>=◌
  let_fault s b earlier bindings body x t left e first wrong =
      ap (λ a. a >>= whole) (bindings_are s b (bound_names earlier) bindings ∙ ap (bindings_by s b (bound_names earlier)) first)
      ∙ ap (λ a. (a >>= λ name. reading w s b t >>= λ r. later name r) >>= whole) wrong
    where
      whole : Bindings → Answer Reading
      whole rs = reading w (with_definitions s rs.made) ((earlier ++ rs.bound) ++ b) body >>= λ v. Ok (after_made rs.made v)

      later : Name → Reading → Answer Bindings
      later name r = bindings_reading w (with_definitions s r.made) b (bound_names earlier ++ name ∷ []) left >>= λ rs. Ok (record { made = r.made ++ rs.made; bound = (name, r.term) ∷ rs.bound })

  -- the body comes next
  pub let_body : (s : Signature) (b earlier : Bound) (bindings : Trees) (body : Tree) → first_binding bindings ≡ None
      → let_from w s b earlier (bindings, body) ≡ (readings w s (earlier ++ b) (more body none) >>= λ r. Ok (record { made = r.made; term = first_term r.terms }))
  unfolding ◌>>=◌
  let_body s b earlier bindings body none_left =
      ap (λ a. a >>= λ rs. reading w (with_definitions s rs.made) ((earlier ++ rs.bound) ++ b) body >>= λ v. Ok (after_made rs.made v)) (bindings_are s b (bound_names earlier) bindings ∙ ap (bindings_by s b (bound_names earlier)) none_left)
      ∙ (λ i. reading w (with_no s i) (append-nil earlier i ++ b) body >>= λ v. Ok (after_made [] v))
      ∙ go (reading w s (earlier ++ b) body)
      ∙ ap (λ a. a >>= λ r. Ok (record { made = r.made; term = first_term r.terms })) (sym (one_text w s (earlier ++ b) body))
    where
      go : (a : Answer Reading) → (a >>= λ v. Ok (after_made [] v)) ≡ (let z : Answer Readings = (a >>= λ r. Ok (record { made = r.made; terms = r.term ∷ [] })) in z >>= λ r. Ok (record { made = r.made; term = first_term r.terms }))
      go (Ok v) = refl
      go (Err e) = refl

  -- a `let` from its first binding on
  pub let_starts : (s : Signature) (b : Bound) (at : ℕ) (us : Trees) (p : Trees × Tree) → let_parts us ≡ Some p → let_reading w s b at us ≡ let_from w s b [] p
  unfolding let_reading let_parts
  let_starts s b at none p e = cc
  let_starts s b at (more (atom x k n) ts) p e = cc
  let_starts s b at (more (list x us y) none) p e = cc
  let_starts s b at (more (list x us y) (more t none)) p e = ap (let_from w s b []) (same e)
    where
      same : Some (us, t) ≡ Some p → (let z : Trees × Tree = (us, t) in z) ≡ p
      same e = cc
  let_starts s b at (more (list x us y) (more t (more u ts))) p e = cc

-- a `let` of another shape
pub let_wrong : (w : Setting) (s : Signature) (b : Bound) (at : ℕ) (us : Trees) → let_parts us ≡ None → let_reading w s b at us ≡ refused at BadShape
unfolding let_reading let_parts
let_wrong w s b at none e = refl
let_wrong w s b at (more (atom x k n) ts) e = refl
let_wrong w s b at (more (list x us y) none) e = refl
let_wrong w s b at (more (list x us y) (more t none)) e = cc
let_wrong w s b at (more (list x us y) (more t (more u ts))) e = refl

-- pairs that are the same have the same parts
left_same : {A B : Type 0} (a c : A) (b d : B) → (let o : Option (A × B) = Some (a, b) in o) ≡ Some (c, d) → a ≡ c
left_same {A} {B} a c b d e = let same : (let p : A × B = (a, b) in p) ≡ (c, d) = cc in ap (λ (p : A × B). p.0) same

right_same : {A B : Type 0} (a c : A) (b d : B) → (let o : Option (A × B) = Some (a, b) in o) ≡ Some (c, d) → b ≡ d
right_same {A} {B} a c b d e = let same : (let p : A × B = (a, b) in p) ≡ (c, d) = cc in ap (λ (p : A × B). p.1) same

-- how large the parts of a `let` are
pub let_size : (us bindings : Trees) (body : Tree) → let_parts us ≡ Some (bindings, body) → sizes us ≡ 2 + (sizes bindings + size body)
unfolding let_parts
let_size none bindings body e = cc
let_size (more (atom x k n) ts) bindings body e = cc
let_size (more (list x us y) none) bindings body e = cc
let_size (more (list x us y) (more t none)) bindings body e = omega (arith, ap sizes (left_same us bindings t body e), ap size (right_same us bindings t body e))
let_size (more (list x us y) (more t (more u ts))) bindings body e = cc

-- how large a binding is
pub binding_size : (bindings : Trees) (x : Word) (t : Tree) (left : Trees) → first_binding bindings ≡ Some (x, (t, left)) → sizes bindings ≡ 3 + (size t + sizes left)
unfolding first_binding
binding_size none x t left e = cc
binding_size (more (atom at k n) rest) x t left e = cc
binding_size (more (list at none end) rest) x t left e = cc
binding_size (more (list at (more (list y us z) ts) end) rest) x t left e = cc
binding_size (more (list at (more (atom y k n) none) end) rest) x t left e = cc
binding_size (more (list at (more (atom y k n) (more u none)) end) rest) x t left e =
    let both = right_same {A = Word} {B = Tree × Trees} (record { at = y; kind = k; bytes = n }) x (u, rest) (t, left) e in
    omega (arith, ap size (ap (λ (p : Tree × Trees). p.0) both), ap sizes (ap (λ (p : Tree × Trees). p.1) both))
binding_size (more (list at (more (atom y k n) (more u (more v vs))) end) rest) x t left e = cc
