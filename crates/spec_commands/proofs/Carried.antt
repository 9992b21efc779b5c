-- What holds of names and assertions at each level, and commands carry.
use Rattle.std.proofs.Common.{◌≡◌, ℕ, zero, suc, ◌-◌, ◌+◌, ◌<◌, ◌≤◌, Bool, true, false, List, [], ◌∷◌, ◌++◌, length, Option, Some, None, refl, sym, ap, ◌∙◌, subst, subst₂, ⊎_elim, arith}
use Rattle.std.specs.Prelude.{Ok, Err, nat_le}
use Rattle.std.proofs.lemmas.Bool.{cases_lt, and_parts}
use Rattle.spec_text.specs.declared.Fault.TheVariants.{BadShape, PopTooFar, WrongMode, WrongSort, Full}
use Rattle.spec_text.specs.Answers.{Answer, refused, require}
use Rattle.spec_text.specs.Trees.{Tree, Trees, none, more, offset_of}
use Rattle.spec_text.proofs.AnswerLaws.{answer, went, require_true}
use Rattle.spec_sorts.specs.Terms.{Sort, Truth, Declared, Symbol, Term, same_sort, sort_of}
use Rattle.spec_sorts.specs.Signatures.{Definition, Declaration, of_sort, of_function, declared, Signature}
use Rattle.spec_sorts.specs.Signatures as signatures
use Rattle.spec_sorts.specs.Subterms.{subterms_of, has_room}
use Rattle.spec_reading.specs.Names.{script, new_name, is_sort, is_function}
use Rattle.spec_reading.specs.Sorts.{sort_in, sorts_in}
use Rattle.spec_reading.specs.Reading.{Reading, reading, reading_of_sort}
use Rattle.spec_reading.specs.Definitions.{definitions_in}
use Rattle.spec_commands.specs.Commands.{Command, SetLogic, SetOption, SetInfo, DeclareSort, DefineSort, DeclareFun, DefineFun, Assert, Push, Pop, CheckSat, CheckSatAssuming, ResetAssertions, Reset, Echo, Exit, command_of}
use Rattle.spec_commands.specs.Stack.{Assertion, Stack, Key, Effect, done, unsupported, check, say, leave, Taken, did, empty_stack, signature_of, joined, assertions_of, terms_asserted, levels_open, begun, with_declaration, with_definitions, with_assertion, with_levels, up_to_level, emptied, level_limit, key_named, truth_in, with_option, may_set, option_set, roomy, terms_defined, literals_in, performed, step}
use Rattle.spec_commands.specs.Checks.{Check, this_or, after_effect, after_command, current_at}
use Rattle.spec_commands.specs.Kept.{AreLeveled, AtEachLevel}
use Rattle.spec_commands.proofs.Levels.{signature_last, signature_with, levels_with, options_with, joined_last, up_to_all, open_last, open_up_to_most, up_to_twice, global_names, global_emptied, local_emptied, assertions_up_to, up_to_declared, up_to_defined, up_to_asserted, up_to_pushed, same_up_to_pushed, begun_defined, leveled_declared, leveled_defined, leveled_asserted, leveled_pushed, leveled_up_to, leveled_emptied, leveled_empty, leveled_begun, leveled_option}

-- what holds of names and assertions
abbrev pub Property : Type 1
Property = Signature → List Assertion → Type 0

-- it does of all that a stack has
abbrev pub IsHere : Property → Stack → Type 0
IsHere P s = P (signature_of s) (assertions_of s)

-- where each property leads to another
pub each_weaker : (P Q : Property) → ((g : Signature) (assertions : List Assertion) → P g assertions → Q g assertions) → (s : Stack) → AtEachLevel P s → AtEachLevel Q s
each_weaker P Q leads s h = record {
  leveled = h.leveled;
  each = λ k. leads (signature_of (up_to_level k s)) (assertions_of (up_to_level k s)) (h.each k);
}

module _ (P : Property) where
  -- up to the last level
  pub here : (s : Stack) → AtEachLevel P s → IsHere P s
  here s h = subst (IsHere P) (up_to_all s (levels_open s.levels) h.leveled (omega arith)) (h.each (levels_open s.levels))

  -- of fewer assertions too
  abbrev pub IsClosed : Type 0
  IsClosed = (g : Signature) (front more : List Assertion) → P g (front ++ more) → P g front

  module _ (closed : IsClosed) where
    -- where declarations are global, all names are there up to each level
    each_alike : (u : Stack) → AreLeveled u → u.options.global_declarations ≡ true → IsHere P u → AtEachLevel P u
    each_alike u leveled on new = record { leveled = leveled; each = at }
      where
        at : (k : ℕ) → IsHere P (up_to_level k u)
        at k =
            let front = assertions_up_to k u in
            subst (λ g. P g (assertions_of (up_to_level k u))) (sym (global_names k u leveled on)) (closed (signature_of u) (assertions_of (up_to_level k u)) front.0 (subst (P (signature_of u)) front.1 new))

    -- what changes the last level alone, or names that are global
    pub each_changed : (s u : Stack) → AtEachLevel P s → AreLeveled u → levels_open u.levels ≡ levels_open s.levels → (u.options.global_declarations ≡ false → (k : ℕ) → k < levels_open s.levels → up_to_level k u ≡ up_to_level k s) → IsHere P u → AtEachLevel P u
    each_changed s u h leveled many same new = go u.options.global_declarations refl
      where
        below : u.options.global_declarations ≡ false → (k : ℕ) → k < levels_open s.levels → IsHere P (up_to_level k u)
        below off k lt = subst (IsHere P) (sym (same off k lt)) (h.each k)

        above : (k : ℕ) → levels_open s.levels ≤ k → IsHere P (up_to_level k u)
        above k le = subst (IsHere P) (sym (up_to_all u k leveled (omega (arith, many, le)))) new

        go : (b : Bool) → u.options.global_declarations ≡ b → AtEachLevel P u
        go true on = each_alike u leveled on new
        go false off = record { leveled = leveled; each = λ k. ⊎_elim (below off k) (above k) (cases_lt k (levels_open s.levels)) }

    -- a declaration more
    pub each_declared : (s : Stack) (d : Declaration) → s.started ≡ true → AtEachLevel P s → P (signature_of s ++ d ∷ []) (assertions_of s) → AtEachLevel P (with_declaration s d)
    each_declared s d go h new =
        each_changed s (with_declaration s d) h (leveled_declared s d go h.leveled) refl (λ off k lt. up_to_declared k s d off lt)
        (subst (λ g. P g (assertions_of s)) (sym (signature_last s d)) new)

    -- definitions more
    pub each_defined : (s : Stack) (ds : List Definition) → s.started ≡ true → AtEachLevel P s → P (signatures.with_definitions (signature_of s) ds) (assertions_of s) → AtEachLevel P (with_definitions s ds)
    each_defined s ds go h new =
        each_changed s (with_definitions s ds) h (leveled_defined s ds go h.leveled) (ap levels_open (levels_with s ds)) (λ off k lt. up_to_defined k s ds (sym (ap (λ o. o.global_declarations) (options_with s ds)) ∙ off) lt)
        (subst₂ P (sym (signature_with s ds)) (ap joined (sym (levels_with s ds))) new)

    -- definitions and an assertion more
    pub each_asserted : (s : Stack) (ds : List Definition) (t : Tree) (u : Term) → s.started ≡ true → AtEachLevel P s → P (signatures.with_definitions (signature_of s) ds) (assertions_of s ++ record { text = t; term = u } ∷ []) → AtEachLevel P (with_assertion (with_definitions s ds) t u)
    each_asserted s ds t u go h new =
        let a : Assertion = record { text = t; term = u } in
        let named = with_definitions s ds in
        let many : levels_open named.levels ≡ levels_open s.levels = ap levels_open (levels_with s ds) in
        each_changed s (with_assertion named t u) h (leveled_asserted named t u (leveled_defined s ds go h.leveled)) (open_last named.levels a ∙ many)
        (λ off k lt. up_to_asserted k named t u (omega (arith, many, lt)) ∙ up_to_defined k s ds (sym (ap (λ o. o.global_declarations) (options_with s ds)) ∙ off) lt)
        (subst₂ P (sym (signature_with s ds)) (ap (λ ls. joined ls ++ a ∷ []) (sym (levels_with s ds)) ∙ sym (joined_last named.levels a)) new)

    -- nothing asserted, and nothing declared but what is global
    pub each_emptied : (s : Stack) → AtEachLevel P s → P [] [] → AtEachLevel P (emptied s)
    each_emptied s h nothing = record {
      leveled = leveled_emptied s h.leveled;
      each = λ k. subst (IsHere P) (sym (up_to_all (emptied s) k (leveled_emptied s h.leveled) (omega arith))) (go s.options.global_declarations refl);
    }
      where
        go : (b : Bool) → s.options.global_declarations ≡ b → IsHere P (emptied s)
        go true on = subst (λ g. P g []) (sym (global_emptied s h.leveled on)) (closed (signature_of s) [] (assertions_of s) (here s h))
        go false off = subst (λ g. P g []) (sym (local_emptied s h.leveled off)) nothing

  -- levels more
  pub each_pushed : (n : ℕ) (s : Stack) → s.started ≡ true → AtEachLevel P s → AtEachLevel P (with_levels n s)
  each_pushed n s go h = record { leveled = leveled_pushed n s go h.leveled; each = λ k. ⊎_elim (below k) (above k) (cases_lt k (levels_open s.levels)) }
    where
      below : (k : ℕ) → k < levels_open s.levels → IsHere P (up_to_level k (with_levels n s))
      below k lt = subst (IsHere P) (sym (up_to_pushed n k s h.leveled.first (omega (arith, lt)) h.leveled)) (h.each k)

      above : (k : ℕ) → levels_open s.levels ≤ k → IsHere P (up_to_level k (with_levels n s))
      above k le = let same = same_up_to_pushed n k s le h.leveled in subst₂ P (sym same.0) (sym same.1) (here s h)

  -- up to a level
  pub each_up_to : (j : ℕ) (s : Stack) → AtEachLevel P s → AtEachLevel P (up_to_level j s)
  each_up_to j s h = record { leveled = leveled_up_to j s h.leveled; each = λ k. ⊎_elim (below k) (above k) (cases_lt k j) }
    where
      below : (k : ℕ) → k < j → IsHere P (up_to_level k (up_to_level j s))
      below k lt = subst (IsHere P) (sym (up_to_twice k j s (omega (arith, lt)))) (h.each k)

      above : (k : ℕ) → j ≤ k → IsHere P (up_to_level k (up_to_level j s))
      above k le = subst (IsHere P) (sym (up_to_all (up_to_level j s) k (leveled_up_to j s h.leveled) (omega (arith, open_up_to_most j s, le)))) (h.each j)

  -- nothing declared and nothing asserted
  pub each_empty : P [] [] → AtEachLevel P empty_stack
  each_empty nothing = record {
    leveled = leveled_empty;
    each = λ k. subst (IsHere P) (sym (up_to_all empty_stack k leveled_empty (omega arith))) nothing;
  }

  -- options that may be set do not matter
  pub each_set : (s : Stack) (k : Key) (b : Bool) → may_set k s ≡ true → AtEachLevel P s → AtEachLevel P (record s { options = with_option k b s.options })
  each_set s k b may h = record { leveled = leveled_option s k b may h.leveled; each = h.each }

  -- nor does the start
  pub each_begun : (s : Stack) → AtEachLevel P s → AtEachLevel P (begun s)
  each_begun s h = record { leveled = leveled_begun s h.leveled; each = h.each }

-- what there is room for
pub roomy_ok : (limit at : ℕ) (ts : List Term) (s : Stack) (d : Taken) → roomy limit at ts s ≡ Ok d → (has_room limit (signature_of s) ts ≡ true) × (did s ≡ d)
roomy_ok limit at ts s d e =
    let a = went (require (has_room limit (signature_of s) ts) at Full) _ d e in
    (require_true (has_room limit (signature_of s) ts) at Full a.first a.was, answer (Ok (did s)) d a.then)

module _ (limit : ℕ) (P Q : Property) where
  -- a command makes one property of another where it adds names and assertions
  abbrev pub IsCarried : Command → Type 0
  IsCarried (DeclareSort x) = (g : Signature) (assertions : List Assertion) (n : List ℕ) → new_name script (is_sort g) x ≡ Ok n → P g assertions → Q (g ++ of_sort n (Declared n) ∷ []) assertions
  IsCarried (DefineSort x t) = (g : Signature) (assertions : List Assertion) (n : List ℕ) (sort : Sort) → new_name script (is_sort g) x ≡ Ok n → sort_in g t ≡ Ok sort → P g assertions → Q (g ++ of_sort n sort ∷ []) assertions
  IsCarried (DeclareFun x ts t) = (g : Signature) (assertions : List Assertion) (f : Symbol) → new_name script (is_function g) x ≡ Ok f.name → sorts_in g ts ≡ Ok f.parameters → sort_in g t ≡ Ok f.result → P g assertions → Q (g ++ of_function (declared f) ∷ []) assertions
  IsCarried (DefineFun p) = (g : Signature) (assertions : List Assertion) (ds : List Definition) → definitions_in script g p ≡ Ok ds → P g assertions → Q (signatures.with_definitions g ds) assertions
  IsCarried (Assert t) =
      (g : Signature) (assertions : List Assertion) (r : Reading) → reading script g [] t ≡ Ok r → same_sort Truth (sort_of r.term) ≡ true → nat_le (length (subterms_of (r.term ∷ []))) limit ≡ true → P g assertions
      → Q (signatures.with_definitions g r.made) (assertions ++ record { text = t; term = r.term } ∷ [])
  IsCarried c = Unit {0}

  module _ (leads : (g : Signature) (assertions : List Assertion) → P g assertions → Q g assertions) (closed : IsClosed Q) (nothing : Q [] []) (at : ℕ) where
    weaker : (s : Stack) → AtEachLevel P s → AtEachLevel Q s
    weaker s h = each_weaker P Q leads s h

    option_carried : (s : Stack) (k : Option Key) (b : Option Bool) (d : Taken) → option_set at s k b ≡ Ok d → AtEachLevel P s → AtEachLevel Q d.stack
    option_carried s (Some k) (Some b) d e h =
        let a = went (require (may_set k s) at WrongMode) _ d e in
        subst (λ (x : Taken). AtEachLevel Q x.stack) (answer (Ok (did (record s { options = with_option k b s.options }))) d a.then) (each_set Q s k b (require_true (may_set k s) at WrongMode a.first a.was) (weaker s h))
    option_carried s (Some k) None d e h = absurd (answer (refused at BadShape) d e)
    option_carried s None b d e h = subst (λ (x : Taken). AtEachLevel Q x.stack) (answer (option_set at s None b) d e) (weaker s h)

    -- a declaration more, where there is room
    one_carried : (s : Stack) (f : Declaration) (d : Taken) → roomy limit at [] (begun (with_declaration s f)) ≡ Ok d → AtEachLevel P s → Q (signature_of s ++ f ∷ []) (assertions_of s) → AtEachLevel Q d.stack
    one_carried s f d e h new =
        subst (λ (x : Taken). AtEachLevel Q x.stack) (roomy_ok limit at [] (begun (with_declaration s f)) d e).1
        (each_declared Q closed (begun s) f refl (each_begun Q s (weaker s h)) new)

    -- what is asserted has been read
    asserted_carried : (s : Stack) (t : Tree) (d : Taken) → IsCarried (Assert t) → performed limit at s (Assert t) ≡ Ok d → AtEachLevel P s → AtEachLevel Q d.stack
    asserted_carried s t d carried e h =
        let g = signature_of s in
        let a = went (reading_of_sort script g [] Truth t) _ d e in
        let r : Reading = a.first in
        let x = went (reading script g [] t) _ r a.was in
        let y = went (require (same_sort Truth (sort_of x.first.term)) (offset_of t) WrongSort) _ r x.then in
        let is_r : x.first ≡ r = answer (Ok x.first) r y.then in
        let read = subst (λ (z : Reading). reading script g [] t ≡ Ok z) is_r x.was in
        let sorted = subst (λ (z : Reading). same_sort Truth (sort_of z.term) ≡ true) is_r (require_true (same_sort Truth (sort_of x.first.term)) (offset_of t) WrongSort y.first y.was) in
        let named = with_definitions s r.made in
        let b = roomy_ok limit at (r.term ∷ []) (begun (with_assertion named t r.term)) d a.then in
        let room = (and_parts (nat_le (length (signature_of named)) limit) (nat_le (length (subterms_of (r.term ∷ []))) limit) b.0).1 in
        subst (λ (x : Taken). AtEachLevel Q x.stack) b.1
        (subst (λ (u : Stack). AtEachLevel Q (with_assertion u t r.term)) (begun_defined s r.made)
        (each_asserted Q closed (begun s) r.made t r.term refl (each_begun Q s (weaker s h)) (carried g (assertions_of s) r read sorted room (here P s h))))

    pub performed_carried : (s : Stack) (c : Command) (d : Taken) → IsCarried c → performed limit at s c ≡ Ok d → AtEachLevel P s → AtEachLevel Q d.stack
    performed_carried s (SetLogic x) d carried e h =
        let a = went _ _ d e in
        let b = went _ _ d a.then in
        let c = went _ _ d b.then in
        subst (λ (x : Taken). AtEachLevel Q x.stack) (answer (Ok (did (begun s))) d c.then) (each_begun Q s (weaker s h))
    performed_carried s (SetOption k v) d carried e h = option_carried s (key_named k) (truth_in v) d e h
    performed_carried s SetInfo d carried e h = subst (λ (x : Taken). AtEachLevel Q x.stack) (answer (Ok (did s)) d e) (weaker s h)
    performed_carried s (DeclareSort x) d carried e h =
        let a = went (new_name script (is_sort (signature_of s)) x) _ d e in
        one_carried s (of_sort a.first (Declared a.first)) d a.then h (carried (signature_of s) (assertions_of s) a.first a.was (here P s h))
    performed_carried s (DefineSort x t) d carried e h =
        let a = went (new_name script (is_sort (signature_of s)) x) _ d e in
        let b = went (sort_in (signature_of s) t) _ d a.then in
        one_carried s (of_sort a.first b.first) d b.then h (carried (signature_of s) (assertions_of s) a.first b.first a.was b.was (here P s h))
    performed_carried s (DeclareFun x ts t) d carried e h =
        let a = went (new_name script (is_function (signature_of s)) x) _ d e in
        let b = went (sorts_in (signature_of s) ts) _ d a.then in
        let c = went (sort_in (signature_of s) t) _ d b.then in
        let f : Symbol = record { name = a.first; parameters = b.first; result = c.first } in
        one_carried s (of_function (declared f)) d c.then h (carried (signature_of s) (assertions_of s) f a.was b.was c.was (here P s h))
    performed_carried s (DefineFun p) d carried e h =
        let a = went (definitions_in script (signature_of s) p) _ d e in
        subst (λ (x : Taken). AtEachLevel Q x.stack) (roomy_ok limit at (terms_defined a.first) (begun (with_definitions s a.first)) d a.then).1
        (subst (AtEachLevel Q) (begun_defined s a.first)
        (each_defined Q closed (begun s) a.first refl (each_begun Q s (weaker s h)) (carried (signature_of s) (assertions_of s) a.first a.was (here P s h))))
    performed_carried s (Assert t) d carried e h = asserted_carried s t d carried e h
    performed_carried s (Push n) d carried e h =
        let a = went (require (nat_le (levels_open s.levels + n) level_limit) at Full) _ d e in
        subst (λ (x : Taken). AtEachLevel Q x.stack) (answer (Ok (did (begun (with_levels n s)))) d a.then) (each_pushed Q n (begun s) refl (each_begun Q s (weaker s h)))
    performed_carried s (Pop n) d carried e h =
        let a = went (require (nat_le n (levels_open s.levels)) at PopTooFar) _ d e in
        let k : ℕ = levels_open s.levels - n in
        subst (λ (x : Taken). AtEachLevel Q x.stack) (answer (Ok (did (begun (up_to_level k s)))) d a.then) (each_begun Q (up_to_level k s) (each_up_to Q k s (weaker s h)))
    performed_carried s (CheckSat place) d carried e h = subst (λ (x : Taken). AtEachLevel Q x.stack) (answer (Ok _) d e) (each_begun Q s (weaker s h))
    performed_carried s (CheckSatAssuming place ts) d carried e h =
        let a = went (literals_in (signature_of s) ts) _ d e in
        let b = went (require (has_room limit (signature_of s) (terms_asserted a.first)) at Full) _ d a.then in
        subst (λ (x : Taken). AtEachLevel Q x.stack) (answer (Ok _) d b.then) (each_begun Q s (weaker s h))
    performed_carried s ResetAssertions d carried e h = subst (λ (x : Taken). AtEachLevel Q x.stack) (answer (Ok (did (emptied s))) d e) (each_emptied Q closed s (weaker s h) nothing)
    performed_carried s Reset d carried e h = subst (λ (x : Taken). AtEachLevel Q x.stack) (answer (Ok (did empty_stack)) d e) (each_empty Q nothing)
    performed_carried s (Echo text) d carried e h = subst (λ (x : Taken). AtEachLevel Q x.stack) (answer (Ok _) d e) (weaker s h)
    performed_carried s Exit d carried e h = subst (λ (x : Taken). AtEachLevel Q x.stack) (answer (Ok _) d e) (weaker s h)

-- what each command carries, a step does
pub step_carried : (limit : ℕ) (P : Property) → IsClosed P → P [] [] → ((c : Command) → IsCarried limit P P c) → (s : Stack) (t : Tree) (d : Taken) → step limit s t ≡ Ok d → AtEachLevel P s → AtEachLevel P d.stack
unfolding step
step_carried limit P closed nothing carried s t d e h =
    let a = went (command_of t) _ d e in
    performed_carried limit P P (λ g assertions x. x) closed nothing (offset_of t) s a.first d (carried a.first) a.then h

-- the walk to a check, of which something is wanted
module _ (Y : Check → Type 0) where
  -- what is wanted of the check that is asked for, with a stack
  abbrev pub EffectHas : Effect → Stack → Type 0
  EffectHas (check place assumptions) s = Y (record { stack = s; assumptions = assumptions })
  EffectHas effect s = Unit {0}

  this_has : (now : Check) (k : ℕ) (rest : ℕ → Option Check) (c : Check) → Y now → this_or now k rest ≡ Some c → ((n : ℕ) → rest n ≡ Some c → Y c) → Y c
  this_has now zero rest c h e later = later zero e
  this_has now (suc zero) rest c h e later = let same : now ≡ c = cc in subst Y same h
  this_has now (suc (suc k)) rest c h e later = later (suc k) e

  effect_has : (x : Effect) (s : Stack) (k : ℕ) (rest : Stack → ℕ → Option Check) (c : Check) → EffectHas x s → after_effect x s k rest ≡ Some c → ((n : ℕ) → rest s n ≡ Some c → Y c) → Y c
  effect_has (check place assumptions) s k rest c h e later = this_has (record { stack = s; assumptions = assumptions }) k (rest s) c h e later
  effect_has leave s k rest c h e later = cc
  effect_has done s k rest c h e later = later k e
  effect_has unsupported s k rest c h e later = later k e
  effect_has (say text) s k rest c h e later = later k e

  module _ (X : Stack → Type 0) where
    -- where steps carry what holds of stacks, and give the check that they ask for what is wanted, it has that
    pub current_has : (limit : ℕ) → ((s : Stack) (t : Tree) (d : Taken) → step limit s t ≡ Ok d → X s → X d.stack × EffectHas d.effect d.stack) → (s : Stack) (k : ℕ) (ts : Trees) (c : Check) → current_at limit s k ts ≡ Some c → X s → Y c
    unfolding current_at
    current_has limit carried s k none c e h = cc
    current_has limit carried s k (more t ts) c e h = go (step limit s t) (carried s t) e (λ next n later kept. current_has limit carried next n ts c later kept)
      where
        go : (o : Answer Taken) → ((d : Taken) → o ≡ Ok d → X s → X d.stack × EffectHas d.effect d.stack) → after_command s k o (λ next n. current_at limit next n ts) ≡ Some c → ((next : Stack) (n : ℕ) → current_at limit next n ts ≡ Some c → X next → Y c) → Y c
        go (Ok d) kept e later = let now = kept d refl h in effect_has d.effect d.stack k _ c now.1 e (λ n x. later d.stack n x now.0)
        go (Err f) kept e later = later s k e h

module _ (X : Stack → Type 0) where
  effect_keeps : (x : Effect) (s : Stack) → X s → EffectHas (λ c. X c.stack) x s
  effect_keeps (check place assumptions) s h = h
  effect_keeps leave s h = tt
  effect_keeps done s h = tt
  effect_keeps unsupported s h = tt
  effect_keeps (say text) s h = tt

  pub effect_carried : (x : Effect) (s : Stack) (k : ℕ) (rest : Stack → ℕ → Option Check) (c : Check) → X s → after_effect x s k rest ≡ Some c → ((n : ℕ) → rest s n ≡ Some c → X c.stack) → X c.stack
  effect_carried x s k rest c h e later = effect_has (λ c. X c.stack) x s k rest c (effect_keeps x s h) e later

  -- what steps carry, what is at a check has
  pub current_carried : (limit : ℕ) → ((s : Stack) (t : Tree) (d : Taken) → step limit s t ≡ Ok d → X s → X d.stack) → (s : Stack) (k : ℕ) (ts : Trees) (c : Check) → current_at limit s k ts ≡ Some c → X s → X c.stack
  current_carried limit carried s k ts c e h =
      current_has (λ c. X c.stack) X limit (λ s t d e h. let now = carried s t d e h in (now, effect_keeps d.effect d.stack now)) s k ts c e h
