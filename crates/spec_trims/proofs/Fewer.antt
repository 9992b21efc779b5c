-- A command is read alike where others before it are gone, on which it does not rest.
use Rattle.std.proofs.Common.{◌≡◌, ℕ, suc, ◌≤◌, Bool, true, false, not, ◌&&◌, ◌||◌, List, [], ◌∷◌, ◌++◌, length, map, Option, Some, None, cond, codes, refl, sym, ap, ap₂, ◌∙◌, arith, length-append, nat_le}
use Rattle.std.specs.Prelude.{Ok, if◌then◌else◌}
use Rattle.std.specs.Str.{bytes_eq}
use Rattle.std.proofs.lemmas.Bool.Decides.{nat_tests}
use Rattle.std.proofs.lemmas.Bool.{and_parts}
use Rattle.spec_text.specs.declared.Kind.TheVariants.{Numeral, Decimal, Text, Simple, Quoted, Reserved, Keyword}
use Rattle.spec_text.specs.declared.Fault.TheVariants.{Full}
use Rattle.spec_text.specs.Bytes.{Name, among}
use Rattle.spec_text.specs.Shapes.{Word}
use Rattle.spec_text.specs.Answers.{◌>>=◌}
use Rattle.spec_text.specs.Trees.{Tree, Trees, atom, list, none, more}
use Rattle.spec_text.proofs.AnswerLaws.{answer, went, joined, require_true}
use Rattle.spec_sorts.specs.Terms.{Sort, Truth, Number, Term}
use Rattle.spec_sorts.specs.Theory.{look_up, is_of_theory}
use Rattle.spec_sorts.specs.Signatures.{Definition, Known as Named, Signature, known_as, sort_as, is_some, definition, with_definitions}
use Rattle.spec_sorts.specs.Subterms.{has_room, subterms_of}
use Rattle.spec_reading.specs.Names.{Setting, proof, new_name, is_function, is_in_list, names_bound, without, mentions, any_mentions}
use Rattle.spec_reading.specs.Sorts.{sort_found, sort_in}
use Rattle.spec_reading.specs.Reading.{Bound, Reading, Readings, bound_names, reading_of_sort}
use Rattle.spec_reading.specs.Definitions.{Parts, parameters_in, bound_parameters, definitions_in}
use Rattle.spec_reading.proofs.Values.{new_name_is}
use Rattle.spec_reading.proofs.Closed.{neither_of, still_among}
use Rattle.spec_checking.specs.Reading.{room, literals_in, roomy_literals, roomy_formula, roomy_definitions}
use Rattle.spec_trims.proofs.Alike.{Agree, Fewer, agree_more, fewer_more, require_passes, alike}

-- sorts are the same
abbrev pub SameSorts : Signature → Signature → Type 0
SameSorts s u = (n : Name) → sort_as u n ≡ sort_as s n

module _ (s u : Signature) (h : SameSorts s u) where
  named_same : (at : ℕ) (n : Name) → sort_in u (atom at Simple n) ≡ sort_in s (atom at Simple n)
  named_same at n = ap (λ (o : Option Sort). if bytes_eq n (codes "Bool") then Ok Truth else if bytes_eq n (codes "Real") then Ok Number else sort_found at o) (h n)

  sort_same : (t : Tree) → sort_in u t ≡ sort_in s t
  sort_same (list at ts end) = refl
  sort_same (atom at Simple n) = named_same at n
  sort_same (atom at Quoted n) = named_same at n
  sort_same (atom at Numeral n) = refl
  sort_same (atom at Decimal n) = refl
  sort_same (atom at Text n) = refl
  sort_same (atom at Reserved n) = refl
  sort_same (atom at Keyword n) = refl

  parameters_same : (w : Setting) (names : List Name) (ts : Trees) → parameters_in w u names ts ≡ parameters_in w s names ts
  unfolding parameters_in
  parameters_same w names (more (list at (more (atom x k n) (more t none)) end) rest) =
      λ i. new_name w (is_in_list names) (record { at = x; kind = k; bytes = n }) >>= λ name. sort_same t i >>= λ sort. parameters_same w (names ++ name ∷ []) rest i >>= λ ps. Ok ((name, sort) ∷ ps)
  parameters_same w names _ = refl

-- the parameters of a definition have the names that are written
parameters_named : (w : Setting) (s : Signature) (names : List Name) (ts : Trees) (ps : List (Name × Sort)) (k : ℕ) → parameters_in w s names ts ≡ Ok ps → bound_names (bound_parameters k ps) ≡ names_bound ts
unfolding parameters_in
parameters_named w s names (more (list at (more (atom x kind n) (more t none)) end) rest) ps k e =
    let p = went _ _ _ e in
    let q = went _ _ _ p.then in
    let r = went _ _ _ q.then in
    ap (λ (xs : List (Name × Sort)). bound_names (bound_parameters k xs)) (sym (answer (Ok _) ps r.then))
    ∙ ap₂ (λ (m : Name) (ms : List Name). m ∷ ms) (sym (new_name_is w (is_in_list names) (record { at = x; kind = kind; bytes = n }) p.first p.was)) (parameters_named w s (names ++ p.first ∷ []) rest r.first (suc k) r.was)
parameters_named w s names _ ps k e = ap (λ (xs : List (Name × Sort)). bound_names (bound_parameters k xs)) (sym (answer (Ok []) ps e))

-- what is not found is none of the names
unlooked : (b : Bound) (n : Name) → look_up b n ≡ None → among (bound_names b) n ≡ false
unlooked [] n h = refl
unlooked (x ∷ b) n h = by (bytes_eq x.0 n) (unlooked b n) h
  where
    by : (q : Bool) → (look_up b n ≡ None → among (bound_names b) n ≡ false) → cond q (Some x.1) (look_up b n) ≡ None → (q || among (bound_names b) n) ≡ false
    by true g h = absurd (cc)
    by false g h = g h

agree_below : (gone : List Name) (s u : Signature) (b : Bound) (names : List Name) → bound_names b ≡ names → Agree gone s u [] → Agree (without gone names) s u b
agree_below gone s u b names e a n h l = a n (still_among gone names n h (ap (λ ms. among ms n) (sym e) ∙ unlooked b n l)) refl

-- what is no function is none where there are no more
function_too : (s u : Signature) (n : Name) → Fewer s u → not (is_function s n) ≡ true → not (is_function u n) ≡ true
function_too s u n f h = by (is_of_theory n) (known_as s n) refl h
  where
    by : (q : Bool) (o : Option Named) → known_as s n ≡ o → not (q || is_some o) ≡ true → not (q || is_some (known_as u n)) ≡ true
    by true o e h = h
    by false (Some k) e h = absurd (cc)
    by false None e h = ap (λ o. not (false || is_some o)) (f n e) ∙ h

new_too : (w : Setting) (s u : Signature) (x : Word) (n : Name) → Fewer s u → new_name w (is_function s) x ≡ Ok n → new_name w (is_function u) x ≡ Ok n
new_too w s u x n f e =
    let p = went _ _ _ e in
    let q = went _ _ _ p.then in
    joined _ _ p.first n p.was (joined _ _ tt n (require_passes _ _ _ (function_too s u x.bytes f (require_true _ _ _ q.first q.was))) q.then)

of_sort_alike : (w : Setting) (gone : List Name) (s u : Signature) (b : Bound) (sort : Sort) (t : Tree) (r : Reading) → mentions gone t ≡ false → Agree gone s u b → Fewer s u → reading_of_sort w s b sort t ≡ Ok r → reading_of_sort w u b sort t ≡ Ok r
of_sort_alike w gone s u b sort t r h a f e = let p = went _ _ _ e in joined _ _ p.first r (alike w gone s u b t p.first h a f p.was) p.then

-- a definition
pub definitions_alike : (w : Setting) (gone : List Name) (s u : Signature) (d : Parts) (ds : List Definition) → mentions (without gone (names_bound d.parameters)) d.body ≡ false → SameSorts s u → Agree gone s u [] → Fewer s u → definitions_in w s d ≡ Ok ds → definitions_in w u d ≡ Ok ds
unfolding definitions_in
definitions_alike w gone s u d ds h same a f e =
    let p = went _ _ _ e in
    let q = went _ _ _ p.then in
    let r = went _ _ _ q.then in
    let x = went _ _ _ r.then in
    let b = bound_parameters 0 q.first in
    joined _ _ p.first ds (new_too w s u d.name p.first f p.was)
    (joined _ _ q.first ds (parameters_same s u same w [] d.parameters ∙ q.was)
    (joined _ _ r.first ds (sort_same s u same d.result ∙ r.was)
    (joined _ _ x.first ds (of_sort_alike (record w { own = Some p.first }) (without gone (names_bound d.parameters)) s u b r.first d.body x.first h
    (agree_below gone s u b (names_bound d.parameters) (parameters_named w s [] d.parameters q.first 0 q.was) a) f x.was) x.then)))

-- literals
pub literals_alike : (gone : List Name) (s u : Signature) (ts : Trees) (r : Readings) → any_mentions gone ts ≡ false → Agree gone s u [] → Fewer s u → literals_in s ts ≡ Ok r → literals_in u ts ≡ Ok r
unfolding literals_in any_mentions
literals_alike gone s u none r h a f e = e
literals_alike gone s u (more t ts) r h a f e =
    let k = neither_of (mentions gone t) (any_mentions gone ts) h in
    let p = went _ _ _ e in
    let q = went _ _ _ p.then in
    joined _ _ p.first r (of_sort_alike proof gone s u [] Truth t p.first k.one a f p.was)
    (joined _ _ q.first r (literals_alike gone (with_definitions s p.first.made) (with_definitions u p.first.made) ts q.first k.two (agree_more gone s u [] p.first.made a) (fewer_more s u p.first.made f) q.was) q.then)

-- there is room where there are no more names
room_alike : (limit : Option ℕ) (at : ℕ) (s u : Signature) (ts : List Term) (v : Unit {0}) → length u ≤ length s → room limit at s ts ≡ Ok v → room limit at u ts ≡ Ok v
room_alike None at s u ts v l e = e
room_alike (Some limit) at s u ts v l e =
    let p = and_parts (nat_le (length s) limit) (nat_le (length (subterms_of ts)) limit) (require_true (has_room limit s ts) at Full v e) in
    let few : nat_le (length u) limit ≡ true = grind (arith, nat_tests, p.0, l) in
    require_passes (has_room limit u ts) at Full (ap₂ (λ (x y : Bool). x && y) few p.1)

longer : (s u : Signature) (ds : List Definition) → length u ≤ length s → length (with_definitions u ds) ≤ length (with_definitions s ds)
longer s u ds l = omega (arith, l, length-append s (map definition ds), length-append u (map definition ds))

module _ (limit : Option ℕ) (at : ℕ) (gone : List Name) (s u : Signature) (l : length u ≤ length s) (a : Agree gone s u []) (f : Fewer s u) where
  pub roomy_literals_alike : (ts : Trees) (r : Readings) → any_mentions gone ts ≡ false → roomy_literals limit at s ts ≡ Ok r → roomy_literals limit at u ts ≡ Ok r
  unfolding roomy_literals
  roomy_literals_alike ts r h e =
      let p = went _ _ _ e in
      let q = went _ _ _ p.then in
      joined _ _ p.first r (literals_alike gone s u ts p.first h a f p.was) (joined _ _ q.first r (room_alike limit at _ _ _ q.first (longer s u p.first.made l) q.was) q.then)

  pub roomy_formula_alike : (t : Tree) (r : Reading) → mentions gone t ≡ false → roomy_formula limit at s t ≡ Ok r → roomy_formula limit at u t ≡ Ok r
  unfolding roomy_formula
  roomy_formula_alike t r h e =
      let p = went _ _ _ e in
      let q = went _ _ _ p.then in
      joined _ _ p.first r (of_sort_alike proof gone s u [] Truth t p.first h a f p.was) (joined _ _ q.first r (room_alike limit at _ _ _ q.first (longer s u p.first.made l) q.was) q.then)

  pub roomy_definitions_alike : (d : Parts) (ds : List Definition) → SameSorts s u → mentions (without gone (names_bound d.parameters)) d.body ≡ false → roomy_definitions limit at s d ≡ Ok ds → roomy_definitions limit at u d ≡ Ok ds
  unfolding roomy_definitions
  roomy_definitions_alike d ds same h e =
      let p = went _ _ _ e in
      let q = went _ _ _ p.then in
      joined _ _ p.first ds (definitions_alike proof gone s u d p.first h same a f p.was) (joined _ _ q.first ds (room_alike limit at _ _ _ q.first (longer s u p.first l) q.was) q.then)
