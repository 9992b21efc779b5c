-- What is kept of good commands is good.
use Rattle.std.proofs.Common.{◌≡◌, ℕ, Bool, true, false, ◌||◌, List, [], ◌∷◌, ◌++◌, map, Any, Contains, Option, Some, None, cond, ◌⊎◌, inl, inr, refl, sym, ap, ap₂, ◌∙◌, subst, arith, length-append, append-nil}
use Rattle.std.specs.Prelude.{Ok, if◌then◌else◌}
use Rattle.std.specs.Str.{bytes_eq}
use Rattle.std.proofs.lemmas.Bool.{false≢true}
use Rattle.std.proofs.lemmas.List.{map-append}
use Rattle.std.proofs.lemmas.List.Quantifiers.{Any-push}
use Rattle.std.proofs.lemmas.List.Elements.{Contains-push_cases}
use Rattle.spec_text.specs.Bytes.{Name, among}
use Rattle.spec_text.specs.Trees.{Tree, Trees, none, more}
use Rattle.spec_text.proofs.AnswerLaws.{answer, went}
use Rattle.spec_sorts.specs.Signatures.{Definition, Known as Named, defined, of_sort, of_function, Signature, known_as, sort_as, definition, with_definitions}
use Rattle.spec_sorts.specs.Literals.{Clause}
use Rattle.spec_reading.specs.Reading.{Readings}
use Rattle.spec_reading.proofs.Closed.{neither_of}
use Rattle.spec_commands.specs.Checks.{Check}
use Rattle.spec_checking.specs.Commands.{NamedClause, Known, Statement, assumed, stepped, nothing, Command, Shape, assumes, steps, defines, known_at}
use Rattle.spec_checking.specs.Reading.{clause_of, entry_names, literals_in, roomy_literals, read_shape, command_of}
use Rattle.spec_checking.specs.Judging.{with_statement, with_command, IsRightAfter, HasEmptyClause}
use Rattle.spec_checking.specs.Good.{commands_in, known_after, AreRight, AreGood}
use Rattle.spec_checking.proofs.Sound.{read_ok}
use Rattle.spec_checking.proofs.Good.{good_end, good_step}
use Rattle.spec_trims.specs.Trims.{definition_names, steps_made, terms_made, uses_step, uses_term, command_shape, shape_rests_on, some_rests_on, is_empty_shape, is_empty_step, kept_before, trimmed}
use Rattle.spec_trims.proofs.Alike.{or_else, known_both, none_both, agree_more, fewer_more}
use Rattle.spec_trims.proofs.Mentions.{or_both, among_both, among_parts, steps_both, terms_both, no_steps, no_terms}
use Rattle.spec_trims.proofs.Commands.{FewerKnown, shape_uses, shape_read, command_alike, stated_names, names_of_command}

-- definitions are no sorts
no_sort : (ds : List Definition) (n : Name) → sort_as (map definition ds) n ≡ None
no_sort [] n = refl
no_sort (d ∷ ds) n = no_sort ds n

sort_more : (s : Signature) (ds : List Definition) (n : Name) → sort_as (with_definitions s ds) n ≡ sort_as s n
sort_more [] ds n = no_sort ds n
sort_more (of_sort m x ∷ s) ds n = ap (λ o. if bytes_eq m n then Some x else o) (sort_more s ds n)
sort_more (of_function f ∷ s) ds n = sort_more s ds n

-- a name that no definition has is unknown after them, where it was
undefined : (ds : List Definition) (n : Name) → among (definition_names ds) n ≡ false → known_as (map definition ds) n ≡ None
undefined [] n h = refl
undefined (d ∷ ds) n h =
    let p = neither_of (bytes_eq d.name n) (among (definition_names ds) n) h in
    λ i. if p.one i then Some (defined d) else undefined ds n p.two i

no_else : (x : Option Named) → or_else x None ≡ x
no_else (Some k) = refl
no_else None = refl

same_without : (s : Signature) (ds : List Definition) (n : Name) → among (definition_names ds) n ≡ false → known_as (with_definitions s ds) n ≡ known_as s n
same_without s ds n h = known_both s (map definition ds) n ∙ ap (or_else (known_as s n)) (undefined ds n h) ∙ no_else (known_as s n)

-- the clauses of two rows of entries
abbrev clause_or : Option Clause → Option Clause → Option Clause
clause_or (Some c) o = Some c
clause_or None o = o

clause_both : (es fs : List NamedClause) (n : Name) → clause_of (es ++ fs) n ≡ clause_or (clause_of es n) (clause_of fs n)
clause_both [] fs n = refl
clause_both (e ∷ es) fs n = by (bytes_eq e.name n) (clause_both es fs n)
  where
    by : (q : Bool) → clause_of (es ++ fs) n ≡ clause_or (clause_of es n) (clause_of fs n) → cond q (Some e.clause) (clause_of (es ++ fs) n) ≡ clause_or (cond q (Some e.clause) (clause_of es n)) (clause_of fs n)
    by true h = refl
    by false h = h

-- what a statement adds
abbrev stated : Statement → List NamedClause
stated s = with_statement [] s

stated_more : (es : List NamedClause) (s : Statement) → with_statement es s ≡ es ++ stated s
stated_more es (assumed at n t) = refl
stated_more es (stepped s) = refl
stated_more es (nothing at) = sym (append-nil es)

stated_named : (s : Statement) → entry_names (stated s) ≡ stated_names s
stated_named (assumed at n t) = refl
stated_named (stepped s) = refl
stated_named (nothing at) = refl

names_more : (es : List NamedClause) (s : Statement) → entry_names (with_statement es s) ≡ entry_names es ++ stated_names s
names_more es s = ap entry_names (stated_more es s) ∙ map-append (λ (e : NamedClause). e.name) es (stated s) ∙ ap (λ (ns : List Name). entry_names es ++ ns) (stated_named s)

unstated : (s : Statement) (n : Name) → among (stated_names s) n ≡ false → clause_of (stated s) n ≡ None
unstated (assumed at m t) n h = ap (λ q. cond q (Some (t ∷ [])) None) (neither_of (bytes_eq m n) false h).one
unstated (stepped s) n h = ap (λ q. cond q (Some s.clause) None) (neither_of (bytes_eq s.name n) false h).one
unstated (nothing at) n h = refl

none_or : (x : Option Clause) → clause_or x None ≡ x
none_or (Some c) = refl
none_or None = refl

same_unstated : (es : List NamedClause) (s : Statement) (n : Name) → among (stated_names s) n ≡ false → clause_of (with_statement es s) n ≡ clause_of es n
same_unstated es s n h = ap (λ xs. clause_of xs n) (stated_more es s) ∙ clause_both es (stated s) n ∙ ap (clause_or (clause_of es n)) (unstated s n h) ∙ none_or (clause_of es n)

clause_more : (es fs : List NamedClause) (s : Statement) (n : Name) → clause_of fs n ≡ clause_of es n → clause_of (with_statement fs s) n ≡ clause_of (with_statement es s) n
clause_more es fs s n h =
    ap (λ xs. clause_of xs n) (stated_more fs s) ∙ clause_both fs (stated s) n ∙ ap (λ x. clause_or x (clause_of (stated s) n)) h
    ∙ sym (ap (λ xs. clause_of xs n) (stated_more es s) ∙ clause_both es (stated s) n)

module _ (terms names : List Name) (k u : Known) (f : FewerKnown terms names k u) (c : Command) where
  -- after a command that is kept
  with_kept : FewerKnown terms names (with_command k c) (with_command u c)
  with_kept = record {
    asserted = f.asserted;
    sorts = λ n. sort_more u.scope c.made n ∙ f.sorts n ∙ sym (sort_more k.scope c.made n);
    agree = λ n h. agree_more terms k.scope u.scope [] c.made (λ m g l. f.agree m g) n h refl;
    fewer = fewer_more k.scope u.scope c.made f.fewer;
    size = omega (arith, f.size, length-append k.scope (map definition c.made), length-append u.scope (map definition c.made));
    clauses = λ n h. clause_more k.entries u.entries c.statement n (f.clauses n h);
    no_more = λ n h.
        let p = among_parts (entry_names k.entries) (stated_names c.statement) n (ap (λ xs. among xs n) (sym (names_more k.entries c.statement)) ∙ h) in
        ap (λ xs. among xs n) (names_more u.entries c.statement) ∙ among_both (entry_names u.entries) (stated_names c.statement) n (f.no_more n p.0) p.1;
  }

  -- and after one that is not, where its names are not used
  with_dropped : (made stating : List Name) → definition_names c.made ≡ made → stated_names c.statement ≡ stating → FewerKnown (made ++ terms) (stating ++ names) (with_command k c) u
  with_dropped made stating e g = record {
    asserted = f.asserted;
    sorts = λ n. f.sorts n ∙ sym (sort_more k.scope c.made n);
    agree = λ n h. let p = among_parts made terms n h in f.agree n p.1 ∙ sym (same_without k.scope c.made n (ap (λ xs. among xs n) e ∙ p.0));
    fewer = λ n h. f.fewer n (none_both (known_as k.scope n) (known_as (map definition c.made) n) (sym (known_both k.scope (map definition c.made) n) ∙ h)).0;
    size = omega (arith, f.size, length-append k.scope (map definition c.made));
    clauses = λ n h. let p = among_parts stating names n h in f.clauses n p.1 ∙ sym (same_unstated k.entries c.statement n (ap (λ xs. among xs n) g ∙ p.0));
    no_more = λ n h. f.no_more n (among_parts (entry_names k.entries) (stated_names c.statement) n (ap (λ xs. among xs n) (sym (names_more k.entries c.statement)) ∙ h)).0;
  }

-- one of some commands uses one of the names
abbrev some_uses : (terms names : List Name) → Trees → Bool
some_uses terms names none = false
some_uses terms names (more t ts) = shape_uses terms names (command_shape t) || some_uses terms names ts

-- what rests on a command uses a name that it makes
rests_uses : (t : Tree) (s : Shape) (ds : Trees) → command_shape t ≡ Some s → some_rests_on ds t ≡ some_uses (terms_made s) (steps_made s) ds
rests_uses t s none is = refl
rests_uses t s (more d ds) is = ap₂ (λ (x y : Bool). x || y) (by (command_shape d)) (rests_uses t s ds is)
  where
    by : (o : Option Shape) → shape_rests_on o (command_shape t) ≡ shape_uses (terms_made s) (steps_made s) o
    by (Some x) = ap (shape_rests_on (Some x)) is
    by None = refl

uses_both : (cs bs ms ns : List Name) (ts : Trees) → some_uses cs ms ts ≡ false → some_uses bs ns ts ≡ false → some_uses (cs ++ bs) (ms ++ ns) ts ≡ false
uses_both cs bs ms ns none h g = refl
uses_both cs bs ms ns (more t ts) h g =
    let i = neither_of (shape_uses cs ms (command_shape t)) (some_uses cs ms ts) h in
    let j = neither_of (shape_uses bs ns (command_shape t)) (some_uses bs ns ts) g in
    or_both (shape_uses (cs ++ bs) (ms ++ ns) (command_shape t)) (some_uses (cs ++ bs) (ms ++ ns) ts) (by (command_shape t) i.one j.one) (uses_both cs bs ms ns ts i.two j.two)
  where
    by : (o : Option Shape) → shape_uses cs ms o ≡ false → shape_uses bs ns o ≡ false → shape_uses (cs ++ bs) (ms ++ ns) o ≡ false
    by None h g = refl
    by (Some s) h g =
        let i = neither_of (uses_step ms s) (uses_term cs s) h in
        let j = neither_of (uses_step ns s) (uses_term bs s) g in
        or_both (uses_step (ms ++ ns) s) (uses_term (cs ++ bs) s) (steps_both ms ns s i.one j.one) (terms_both cs bs s i.two j.two)

-- what is stated by a step without literals
abbrev StatesEmpty : Statement → Type 0
StatesEmpty (stepped s) = s.clause ≡ []
StatesEmpty _ = ⊥

no_literals : (s : Signature) (ts : Trees) (r : Readings) → elim ts [ none ↦ true | more t us ↦ false ] ≡ true → literals_in s ts ≡ Ok r → r.terms ≡ []
unfolding literals_in
no_literals s none r h e = ap (λ (x : Readings). x.terms) (sym (answer (Ok _) r e))
no_literals s (more t ts) r h e = absurd (false≢true h)

shape_empty : (limit : Option ℕ) (k : Known) (at : ℕ) (s : Shape) (c : Command) → is_empty_shape (Some s) ≡ true → read_shape limit k at s ≡ Ok c → StatesEmpty c.statement
unfolding read_shape roomy_literals
shape_empty limit k at (assumes h t) c empty e = absurd (false≢true empty)
shape_empty limit k at (defines d) c empty e = absurd (false≢true empty)
shape_empty limit k at (steps p) c empty e =
    let a = went _ _ _ e in
    let b = went _ _ _ a.then in
    let r = went _ _ _ b.then in
    let d = went _ _ _ r.then in
    let x = went _ _ _ (read_ok _ _ b.first b.was) in
    let v = went _ _ _ x.then in
    subst (λ (x : Command). StatesEmpty x.statement) (answer (Ok _) c d.then)
    (ap (λ (x : Readings). x.terms) (sym (answer (Ok _) b.first v.then)) ∙ no_literals k.scope p.literals x.first empty x.was)

-- and by one with literals no empty clause is
some_literals : (s : Signature) (t : Tree) (ts : Trees) (r : Readings) → literals_in s (more t ts) ≡ Ok r → r.terms ≡ [] → ⊥
unfolding literals_in
some_literals s t ts r e h =
    let p = went _ _ _ e in
    let q = went _ _ _ p.then in
    let same : p.first.term ∷ q.first.terms ≡ [] = ap (λ (x : Readings). x.terms) (answer (Ok _) r q.then) ∙ h in
    cc

-- what a shape with the empty clause is
shape_of_empty : (limit : Option ℕ) (k : Known) (at : ℕ) (s : Shape) (c : Command) → read_shape limit k at s ≡ Ok c → StatesEmpty c.statement → is_empty_shape (Some s) ≡ true
unfolding read_shape roomy_literals
shape_of_empty limit k at (assumes h t) c e empty =
    let p = went _ _ _ e in
    let q = went _ _ _ p.then in
    absurd (subst (λ (x : Command). StatesEmpty x.statement) (sym (answer (Ok _) c q.then)) empty)
shape_of_empty limit k at (defines d) c e empty =
    let p = went _ _ _ e in
    absurd (subst (λ (x : Command). StatesEmpty x.statement) (sym (answer (Ok _) c p.then)) empty)
shape_of_empty limit k at (steps p) c e empty =
    let a = went _ _ _ e in
    let b = went _ _ _ a.then in
    let r = went _ _ _ b.then in
    let d = went _ _ _ r.then in
    let x = went _ _ _ (read_ok _ _ b.first b.was) in
    let v = went _ _ _ x.then in
    let clause : b.first.terms ≡ [] = subst (λ (x : Command). StatesEmpty x.statement) (sym (answer (Ok _) c d.then)) empty in
    let terms : x.first.terms ≡ [] = ap (λ (x : Readings). x.terms) (answer (Ok _) b.first v.then) ∙ clause in
    go p.literals x.first x.was terms
  where
    go : (ts : Trees) (r : Readings) → literals_in k.scope ts ≡ Ok r → r.terms ≡ [] → elim ts [ none ↦ true | more t us ↦ false ] ≡ true
    go none r e h = refl
    go (more t us) r e h = absurd (some_literals k.scope t us r e h)

-- a clause is empty after a step that states the empty one
empty_after : (es : List NamedClause) (s : Statement) → StatesEmpty s → Any (λ (e : NamedClause). e.clause ≡ []) (with_statement es s)
empty_after es (assumed at n t) h = absurd h
empty_after es (stepped s) h = Any-push (λ (e : NamedClause). e.clause ≡ []) es (record { name = s.name; clause = s.clause }) h
empty_after es (nothing at) h = absurd h

-- and where one is after a statement, it was there or is stated
empty_pushed : (es : List NamedClause) (e : NamedClause) → Any (λ (e : NamedClause). e.clause ≡ []) (es ++ e ∷ []) → Any (λ (e : NamedClause). e.clause ≡ []) es ⊎ (e.clause ≡ [])
empty_pushed es e h = go (Contains-push_cases es e h.1 (h.0, h.2, h.3))
  where
    go : Contains es h.1 ⊎ (e ≡ h.1) → Any (λ (e : NamedClause). e.clause ≡ []) es ⊎ (e.clause ≡ [])
    go (inl c) = inl (c.0, h.1, c.1, c.2, h.4)
    go (inr same) = inr (subst (λ (x : NamedClause). x.clause ≡ []) (sym same) h.4)

empty_before : (es : List NamedClause) (s : Statement) → Any (λ (e : NamedClause). e.clause ≡ []) (with_statement es s) → Any (λ (e : NamedClause). e.clause ≡ []) es ⊎ StatesEmpty s
empty_before es (assumed at n t) h = go (empty_pushed es (record { name = n; clause = t ∷ [] }) h)
  where
    go : Any (λ (e : NamedClause). e.clause ≡ []) es ⊎ (t ∷ [] ≡ []) → Any (λ (e : NamedClause). e.clause ≡ []) es ⊎ StatesEmpty (assumed at n t)
    go (inl x) = inl x
    go (inr x) = cc
empty_before es (stepped s) h = empty_pushed es (record { name = s.name; clause = s.clause }) h
empty_before es (nothing at) h = inl h

-- a step with the empty clause is one of some commands
abbrev pub has_empty : Trees → Bool
has_empty none = false
has_empty (more t ts) = is_empty_step t || has_empty ts

or_later : (a b : Bool) → b ≡ true → (a || b) ≡ true
or_later true b h = refl
or_later false b h = h

pub empty_found : (limit : Option ℕ) (k : Known) (ts : Trees) (cs : List Command) → commands_in limit k ts ≡ Ok cs → HasEmptyClause (known_after k cs) → (HasEmptyClause k → ⊥) → has_empty ts ≡ true
unfolding commands_in
empty_found limit k none cs e empty nowhere = absurd (nowhere (subst (λ x. HasEmptyClause (known_after k x)) (sym (answer (Ok []) cs e)) empty))
empty_found limit k (more t ts) cs e empty nowhere =
    let a = went (command_of limit k t) _ cs e in
    let b = went (commands_in limit (with_command k a.first) ts) _ cs a.then in
    let same : a.first ∷ b.first ≡ cs = answer (Ok (a.first ∷ b.first)) cs b.then in
    let h = shape_read limit k t a.first a.was in
    by a.first.statement (is_empty_step t) (λ s. ap is_empty_shape h.is ∙ shape_of_empty limit k h.at h.shape a.first h.read s) (empty_found limit (with_command k a.first) ts b.first b.was (subst (λ x. HasEmptyClause (known_after k x)) (sym same) empty)) (empty_before k.entries a.first.statement)
  where
    by : (s : Statement) (q : Bool) → (StatesEmpty s → q ≡ true) → ((Any (λ (e : NamedClause). e.clause ≡ []) (with_statement k.entries s) → ⊥) → has_empty ts ≡ true) → (Any (λ (e : NamedClause). e.clause ≡ []) (with_statement k.entries s) → Any (λ (e : NamedClause). e.clause ≡ []) k.entries ⊎ StatesEmpty s) → (q || has_empty ts) ≡ true
    by s true x y z = refl
    by s false x y z = y λ h. elim (z h) [ inl old ↦ nowhere old | inr new ↦ false≢true (x new) ]

-- what is right stays right where the same terms are asserted
right_too : (k u : Known) (s : Statement) → u.asserted ≡ k.asserted → IsRightAfter k s → IsRightAfter u s
right_too k u (assumed at n t) e h = subst (λ ts. Contains ts t) (sym e) h
right_too k u (stepped s) e h = h
right_too k u (nothing at) e h = h

-- by the commands: of what is gone so far nothing that is kept uses a name
good_from : (limit : Option ℕ) (terms names : List Name) (k u : Known) (ts : Trees) (cs : List Command) → FewerKnown terms names k u → commands_in limit k ts ≡ Ok cs → AreRight k cs → has_empty ts ≡ true → some_uses terms names (trimmed ts) ≡ false → AreGood limit u (trimmed ts)
unfolding trimmed commands_in
good_from limit terms names k u none cs f e right some free = absurd (false≢true some)
good_from limit terms names k u (more t ts) cs f e right some free =
    let a = went (command_of limit k t) _ cs e in
    let b = went (commands_in limit (with_command k a.first) ts) _ cs a.then in
    let all = subst (AreRight k) (sym (answer (Ok (a.first ∷ b.first)) cs b.then)) right in
    by a.first a.was (right_too k u a.first.statement f.asserted (all [] a.first b.first refl))
    (λ more_terms more_names v g rest_free some_left. good_from limit more_terms more_names (with_command k a.first) v ts b.first g b.was (λ before d after s. all (a.first ∷ before) d after (ap (λ xs. a.first ∷ xs) s)) some_left rest_free)
    (is_empty_step t) refl some free
  where
    by : (c : Command) → command_of limit k t ≡ Ok c → IsRightAfter u c.statement
        → ((more_terms more_names : List Name) (v : Known) → FewerKnown more_terms more_names (with_command k c) v → some_uses more_terms more_names (trimmed ts) ≡ false → has_empty ts ≡ true → AreGood limit v (trimmed ts))
        → (q : Bool) → is_empty_step t ≡ q → (q || has_empty ts) ≡ true → some_uses terms names (if q then more t none else kept_before t (trimmed ts)) ≡ false
        → AreGood limit u (if q then more t none else kept_before t (trimmed ts))
    by c was right rec true empty some free =
        let h = shape_read limit k t c was in
        good_step limit u t none c (command_alike limit terms names k u t c f (neither_of (shape_uses terms names (command_shape t)) false free).one was) right
        (good_end limit (with_command u c) (empty_after u.entries c.statement (shape_empty limit k h.at h.shape c (ap is_empty_shape (sym h.is) ∙ empty) h.read)))
    by c was right rec false empty some free = at (some_rests_on (trimmed ts) t) refl free
      where
        at : (r : Bool) → some_rests_on (trimmed ts) t ≡ r → some_uses terms names (if r then more t (trimmed ts) else trimmed ts) ≡ false → AreGood limit u (if r then more t (trimmed ts) else trimmed ts)
        at true m free =
            let p = neither_of (shape_uses terms names (command_shape t)) (some_uses terms names (trimmed ts)) free in
            good_step limit u t (trimmed ts) c (command_alike limit terms names k u t c f p.one was) right (rec terms names (with_command u c) (with_kept terms names k u f c) p.two some)
        at false m free =
            let h = shape_read limit k t c was in
            let n = names_of_command limit k t c h.shape was h.is in
            rec (terms_made h.shape ++ terms) (steps_made h.shape ++ names) u (with_dropped terms names k u f c (terms_made h.shape) (steps_made h.shape) n.0 n.1)
            (uses_both (terms_made h.shape) terms (steps_made h.shape) names (trimmed ts) (sym (rests_uses t h.shape (trimmed ts) h.is) ∙ m) free) some

none_used : (ts : Trees) → some_uses [] [] ts ≡ false
none_used none = refl
none_used (more t ts) = or_both (shape_uses [] [] (command_shape t)) (some_uses [] [] ts) (by (command_shape t)) (none_used ts)
  where
    by : (o : Option Shape) → shape_uses [] [] o ≡ false
    by None = refl
    by (Some s) = or_both (uses_step [] s) (uses_term [] s) (no_steps s) (no_terms s)

-- what is kept of good commands is good, where no clause was empty before them
pub trims_good : (limit : Option ℕ) (k : Known) (ts : Trees) → (HasEmptyClause k → ⊥) → AreGood limit k ts → AreGood limit k (trimmed ts)
trims_good limit k ts nowhere g = good_from limit [] [] k k ts g.commands all g.read g.right (empty_found limit k ts g.commands g.read g.empty nowhere) (none_used (trimmed ts))
  where
    all : FewerKnown [] [] k k
    all = record { asserted = refl; sorts = λ n. refl; agree = λ n h. refl; fewer = λ n h. h; size = omega arith; clauses = λ n h. refl; no_more = λ n h. h }

-- at a check none is
pub nothing_empty : (c : Check) → HasEmptyClause (known_at c) → ⊥
nothing_empty c h = omega (arith, h.2)
