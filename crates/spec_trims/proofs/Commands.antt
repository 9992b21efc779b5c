-- A command is read as the same one where others before it are gone, on which it does not rest; and what it makes.
use Rattle.std.proofs.Common.{◌≡◌, ℕ, ◌≤◌, Bool, true, false, ◌||◌, List, [], ◌∷◌, length, Option, Some, None, cond, refl, sym, ap, ◌∙◌}
use Rattle.std.specs.Prelude.{Ok}
use Rattle.spec_text.specs.Bytes.{Name, among}
use Rattle.spec_text.specs.Shapes.{Word}
use Rattle.spec_text.specs.Answers.{Answer, ◌>>=◌}
use Rattle.spec_text.specs.Trees.{Tree, Trees, atom, list, none, more}
use Rattle.spec_text.proofs.AnswerLaws.{answer, went, joined}
use Rattle.spec_sorts.specs.Signatures.{Signature, known_as, with_definitions}
use Rattle.spec_reading.specs.Names.{proof, is_function}
use Rattle.spec_reading.specs.Reading.{Readings}
use Rattle.spec_reading.specs.Definitions.{bound_parameters, definitions_in}
use Rattle.spec_reading.proofs.Values.{new_name_is}
use Rattle.spec_reading.proofs.Closed.{neither_of}
use Rattle.spec_proofs.specs.declared.ProofKind.TheVariants.{BadShape, TwiceName}
use Rattle.spec_proofs.specs.Faults.{wrong}
use Rattle.spec_checking.specs.Commands.{Known, Statement, assumed, stepped, nothing, Command, Shape, assumes, steps, defines, shape_of}
use Rattle.spec_checking.specs.Reading.{clause_of, entry_names, fresh_name, in_proof, literals_in, roomy_literals, roomy_formula, roomy_definitions, clause_at, premise_of, premises_of, read_shape, shaped, command_of}
use Rattle.spec_checking.proofs.Sound.{read_ok}
use Rattle.spec_trims.specs.Trims.{definition_names, names_made_in, steps_made, terms_made, has_premise, uses_step, uses_term, command_shape}
use Rattle.spec_trims.proofs.Alike.{Agree, Fewer}
use Rattle.spec_trims.proofs.Made.{both_names, made}
use Rattle.spec_trims.proofs.Fewer.{SameSorts, roomy_literals_alike, roomy_formula_alike, roomy_definitions_alike}

-- Fewer commands came before: what is unknown after all is unknown after some, and but for these names, of terms and of steps, each means the same.
pub record FewerKnown (terms names : List Name) (k u : Known) : Type 0 where
  pub asserted : u.asserted ≡ k.asserted
  pub sorts : SameSorts k.scope u.scope
  pub agree : (n : Name) → among terms n ≡ false → known_as u.scope n ≡ known_as k.scope n
  pub fewer : Fewer k.scope u.scope
  pub size : length u.scope ≤ length k.scope
  pub clauses : (n : Name) → among names n ≡ false → clause_of u.entries n ≡ clause_of k.entries n
  pub no_more : (n : Name) → among (entry_names k.entries) n ≡ false → among (entry_names u.entries) n ≡ false

-- a command uses one of the names
abbrev pub shape_uses : (terms names : List Name) → Option Shape → Bool
shape_uses terms names (Some s) = uses_step names s || uses_term terms s
shape_uses terms names None = false

-- what is read is read in a proof
in_read : {A : Type 0} (words : List Word) (o : Answer A) (a : A) → o ≡ Ok a → in_proof words o ≡ Ok a
unfolding in_proof
in_read words o a e = ap (in_proof words) e

-- a new name is new where there are fewer
fresh_too : (k u : Known) (w : Word) (n : Name) → ((m : Name) → among (entry_names k.entries) m ≡ false → among (entry_names u.entries) m ≡ false) → fresh_name k w ≡ Ok n → fresh_name u w ≡ Ok n
unfolding fresh_name
fresh_too k u w n h e = by (among (entry_names k.entries) w.bytes) refl e
  where
    by : (q : Bool) → among (entry_names k.entries) w.bytes ≡ q → cond q (wrong w.at TwiceName) (Ok w.bytes) ≡ Ok n → cond (among (entry_names u.entries) w.bytes) (wrong w.at TwiceName) (Ok w.bytes) ≡ Ok n
    by true q e = absurd (answer (wrong w.at TwiceName) n e)
    by false q e = ap (λ r. cond r (wrong w.at TwiceName) (Ok w.bytes)) (h w.bytes q) ∙ e

-- and is as it is written
fresh_is : (k : Known) (w : Word) (n : Name) → fresh_name k w ≡ Ok n → w.bytes ≡ n
unfolding fresh_name
fresh_is k w n e = by (among (entry_names k.entries) w.bytes) e
  where
    by : (q : Bool) → cond q (wrong w.at TwiceName) (Ok w.bytes) ≡ Ok n → w.bytes ≡ n
    by true e = absurd (answer (wrong w.at TwiceName) n e)
    by false e = answer (Ok w.bytes) n e

premises_same : (names : List Name) (k u : Known) (ts : Trees) → ((n : Name) → among names n ≡ false → clause_of u.entries n ≡ clause_of k.entries n) → has_premise names ts ≡ false → premises_of u ts ≡ premises_of k ts
unfolding premises_of
premises_same names k u none h e = refl
premises_same names k u (more (list at us end) ts) h e = λ i. premise_of k (list at us end) >>= λ c. premises_same names k u ts h e i >>= λ cs. Ok (c ∷ cs)
premises_same names k u (more (atom at kind n) ts) h e =
    let p = neither_of (among names n) (has_premise names ts) e in
    λ i. clause_at at (h n p.one i) >>= λ c. premises_same names k u ts h p.two i >>= λ cs. Ok (c ∷ cs)

module _ (limit : Option ℕ) (terms names : List Name) (k u : Known) (f : FewerKnown terms names k u) where
  below : Agree terms k.scope u.scope []
  below n h l = f.agree n h

  shape_alike : (at : ℕ) (s : Shape) (c : Command) → shape_uses terms names (Some s) ≡ false → read_shape limit k at s ≡ Ok c → read_shape limit u at s ≡ Ok c
  unfolding read_shape
  shape_alike at (assumes h t) c uses e =
      let free = neither_of (uses_step names (assumes h t)) (uses_term terms (assumes h t)) uses in
      let p = went _ _ _ e in
      let q = went _ _ _ p.then in
      joined _ _ p.first c (fresh_too k u h p.first f.no_more p.was)
      (joined _ _ q.first c (in_read _ _ q.first (roomy_formula_alike limit at terms k.scope u.scope f.size below f.fewer t q.first free.two (read_ok _ _ q.first q.was))) q.then)
  shape_alike at (steps p) c uses e =
      let free = neither_of (uses_step names (steps p)) (uses_term terms (steps p)) uses in
      let a = went _ _ _ e in
      let b = went _ _ _ a.then in
      let r = went _ _ _ b.then in
      let d = went _ _ _ r.then in
      joined _ _ a.first c (fresh_too k u p.name a.first f.no_more a.was)
      (joined _ _ b.first c (in_read _ _ b.first (roomy_literals_alike limit at terms k.scope u.scope f.size below f.fewer p.literals b.first free.two (read_ok _ _ b.first b.was)))
      (joined _ _ r.first c r.was (joined _ _ d.first c (premises_same names k u p.premises f.clauses free.one ∙ d.was) d.then)))
  shape_alike at (defines d) c uses e =
      let free = neither_of (uses_step names (defines d)) (uses_term terms (defines d)) uses in
      let p = went _ _ _ e in
      joined _ _ p.first c (in_read _ _ p.first (roomy_definitions_alike limit at terms k.scope u.scope f.size below f.fewer d p.first f.sorts free.two (read_ok _ _ p.first p.was))) p.then

-- what has a shape has one
shaped_is : (at : ℕ) (o : Option Shape) (s : Shape) → shaped at o ≡ Ok s → o ≡ Some s
shaped_is at (Some x) s e = ap Some (answer (Ok x) s e)
shaped_is at None s e = absurd (answer (wrong at BadShape) s e)

-- A command that is read has a shape.
pub record HasShape (limit : Option ℕ) (k : Known) (t : Tree) (c : Command) : Type 0 where
  pub at : ℕ
  pub shape : Shape
  pub is : command_shape t ≡ Some shape
  pub read : read_shape limit k at shape ≡ Ok c

pub shape_read : (limit : Option ℕ) (k : Known) (t : Tree) (c : Command) → command_of limit k t ≡ Ok c → HasShape limit k t c
unfolding command_of
shape_read limit k (atom at kind n) c e = absurd (answer (wrong at BadShape) c e)
shape_read limit k (list at ts end) c e = let p = went (shaped at (shape_of ts)) _ c e in record { at = at; shape = p.first; is = shaped_is at (shape_of ts) p.first p.was; read = p.then }

-- a command is read alike where what it rests on is there
pub command_alike : (limit : Option ℕ) (terms names : List Name) (k u : Known) (t : Tree) (c : Command) → FewerKnown terms names k u → shape_uses terms names (command_shape t) ≡ false → command_of limit k t ≡ Ok c → command_of limit u t ≡ Ok c
unfolding command_of
command_alike limit terms names k u (atom at kind n) c f uses e = e
command_alike limit terms names k u (list at ts end) c f uses e =
    let p = went (shaped at (shape_of ts)) _ c e in
    joined (shaped at (shape_of ts)) _ p.first c p.was (shape_alike limit terms names k u f at p.first c (ap (shape_uses terms names) (sym (shaped_is at (shape_of ts) p.first p.was)) ∙ uses) p.then)

-- the name of what is stated
abbrev pub stated_names : Statement → List Name
stated_names (assumed at n t) = n ∷ []
stated_names (stepped s) = s.name ∷ []
stated_names (nothing at) = []

-- a command makes the names that its shape has
literals_made : (s : Signature) (ts : Trees) (r : Readings) → literals_in s ts ≡ Ok r → definition_names r.made ≡ names_made_in ts
unfolding literals_in names_made_in
literals_made s none r e = ap (λ (x : Readings). definition_names x.made) (sym (answer (Ok _) r e))
literals_made s (more t ts) r e =
    let p = went _ _ _ e in
    let x = went _ _ _ p.was in
    let one = made proof s [] t x.first x.was in
    let y = went _ _ _ x.then in
    let q = went _ _ _ p.then in
    ap (λ (x : Readings). definition_names x.made) (sym (answer (Ok _) r q.then))
    ∙ both_names p.first.made q.first.made _ _ (ap (λ (x : _). definition_names x.made) (sym (answer (Ok _) p.first y.then)) ∙ one) (literals_made (with_definitions s p.first.made) ts q.first q.was)

-- the definitions that it makes have those of terms
shape_makes : (limit : Option ℕ) (k : Known) (at : ℕ) (s : Shape) (c : Command) → read_shape limit k at s ≡ Ok c → definition_names c.made ≡ terms_made s
unfolding read_shape roomy_formula roomy_literals roomy_definitions definitions_in
shape_makes limit k at (assumes h t) c e =
    let p = went _ _ _ e in
    let q = went _ _ _ p.then in
    let x = went _ _ _ (read_ok _ _ q.first q.was) in
    let y = went _ _ _ x.was in
    let z = went _ _ _ y.then in
    let v = went _ _ _ x.then in
    ap (λ (x : Command). definition_names x.made) (sym (answer (Ok _) c q.then))
    ∙ ap (λ (x : _). definition_names x.made) (sym (answer (Ok _) q.first v.then) ∙ sym (answer (Ok _) x.first z.then))
    ∙ made proof k.scope [] t y.first y.was
shape_makes limit k at (steps p) c e =
    let a = went _ _ _ e in
    let b = went _ _ _ a.then in
    let r = went _ _ _ b.then in
    let d = went _ _ _ r.then in
    let x = went _ _ _ (read_ok _ _ b.first b.was) in
    let v = went _ _ _ x.then in
    ap (λ (x : Command). definition_names x.made) (sym (answer (Ok _) c d.then))
    ∙ ap (λ (x : Readings). definition_names x.made) (sym (answer (Ok _) b.first v.then))
    ∙ literals_made k.scope p.literals x.first x.was
shape_makes limit k at (defines d) c e =
    let p = went _ _ _ e in
    let x = went _ _ _ (read_ok _ _ p.first p.was) in
    let v = went _ _ _ x.then in
    let n = went _ _ _ x.was in
    let q = went _ _ _ n.then in
    let r = went _ _ _ q.then in
    let t = went _ _ _ r.then in
    let y = went _ _ _ t.was in
    let z = went _ _ _ y.then in
    ap (λ (x : Command). definition_names x.made) (sym (answer (Ok _) c p.then))
    ∙ ap definition_names (sym (answer (Ok _) p.first v.then) ∙ sym (answer (Ok _) x.first t.then))
    ∙ both_names t.first.made _ _ _
    (ap (λ (x : _). definition_names x.made) (sym (answer (Ok _) t.first z.then)) ∙ made (record proof { own = Some n.first }) k.scope (bound_parameters 0 q.first) d.body y.first y.was)
    (ap (λ (m : Name). m ∷ []) (sym (new_name_is proof (is_function k.scope) d.name n.first n.was)))

-- and what it states has that of an assume or a step
shape_states : (limit : Option ℕ) (k : Known) (at : ℕ) (s : Shape) (c : Command) → read_shape limit k at s ≡ Ok c → stated_names c.statement ≡ steps_made s
unfolding read_shape
shape_states limit k at (assumes h t) c e =
    let p = went _ _ _ e in
    let q = went _ _ _ p.then in
    ap (λ (x : Command). stated_names x.statement) (sym (answer (Ok _) c q.then)) ∙ ap (λ (m : Name). m ∷ []) (sym (fresh_is k h p.first p.was))
shape_states limit k at (steps p) c e =
    let a = went _ _ _ e in
    let b = went _ _ _ a.then in
    let r = went _ _ _ b.then in
    let d = went _ _ _ r.then in
    ap (λ (x : Command). stated_names x.statement) (sym (answer (Ok _) c d.then)) ∙ ap (λ (m : Name). m ∷ []) (sym (fresh_is k p.name a.first a.was))
shape_states limit k at (defines d) c e = let p = went _ _ _ e in ap (λ (x : Command). stated_names x.statement) (sym (answer (Ok _) c p.then))

pub names_of_command : (limit : Option ℕ) (k : Known) (t : Tree) (c : Command) (s : Shape) → command_of limit k t ≡ Ok c → command_shape t ≡ Some s → (definition_names c.made ≡ terms_made s) × (stated_names c.statement ≡ steps_made s)
names_of_command limit k t c s e is =
    let h = shape_read limit k t c e in
    let same : h.shape ≡ s = (let both : Some h.shape ≡ Some s = sym h.is ∙ is in cc) in
    (shape_makes limit k h.at h.shape c h.read ∙ ap terms_made same, shape_states limit k h.at h.shape c h.read ∙ ap steps_made same)
