-- A script's text run command by command.
use Rattle.std.proofs.Common.{◌≡◌, ℕ, Bool, true, false, ◌||◌, List, [], ◌∷◌, ◌++◌, length, Option, inl, inr, refl, sym, ap, ◌∙◌, subst, append_assoc, append-nil}
use Rattle.std.specs.List.{list_any}
use Rattle.std.proofs.lemmas.Grind.{flat_map-append}
use Rattle.std.proofs.lemmas.List.Folds.{list_any-append}
use Rattle.std.proofs.Math.Bool.{or-false}
use Rattle.spec_text.specs.Lexemes.{Lexeme, lexemes, lexemes_from}
use Rattle.spec_text.specs.Trees.{Tree, Trees, none, more, spelled, spelled_all}
use Rattle.spec_text.specs.Faults.{Located}
use Rattle.spec_text.specs.Readings.{AreTrees, StopsAt, EndsTrees, kept, is_long, limited, IsReadUpTo}
use Rattle.spec_text.proofs.Stopping.{stop_of}
use Rattle.spec_sessions.specs.Evidence.{Limits}
use Rattle.spec_sessions.specs.States.{State, first_state}
use Rattle.spec_sessions.specs.Responses.{Mode, Response, success, not_supported, answered, echoed, ended, replied, rejected, Answered, Answers, response_text, is_rejected, is_end}
use Rattle.spec_sessions.specs.Transcripts.{Follows, Runs, Begins, state_left, answers_text, closing_by, closing, closing_text, is_fault, IsTranscript, IsBegun}

-- no tree comes first
nothing_first : (xs : List (ℕ × Lexeme)) → AreTrees xs none xs
nothing_first xs = refl

-- a first tree, and then others
first_tree : (xs ys : List (ℕ × Lexeme)) (t : Tree) → xs ≡ spelled t ++ ys → (us : Trees) (rest : List (ℕ × Lexeme)) → AreTrees ys us rest → AreTrees xs (more t us) rest
first_tree xs ys t e us rest h = e ∙ ap (λ zs. spelled t ++ zs) h ∙ sym (append_assoc (spelled t) (spelled_all us) rest)

-- after a response that does not end the script all else follows
follows_on : (r : Response) (P : List Answered → Type 0) (given : List Answered) → is_end r ≡ false → P given → Follows r P given
follows_on success P given e h = h
follows_on not_supported P given e h = h
follows_on (answered f) P given e h = h
follows_on (echoed s) P given e h = h
follows_on ended P given e h = cc
follows_on (replied lines) P given e h = h
follows_on (rejected f) P given e h = h

-- after one that does, nothing
follows_none : (r : Response) (P : List Answered → Type 0) → is_end r ≡ true → Follows r P []
follows_none success P e = cc
follows_none not_supported P e = cc
follows_none (answered f) P e = cc
follows_none (echoed s) P e = cc
follows_none ended P e = refl
follows_none (replied lines) P e = cc
follows_none (rejected f) P e = cc

-- what follows a response that does not end the script is so
follows_back : (r : Response) (P : List Answered → Type 0) (given : List Answered) → is_end r ≡ false → Follows r P given → P given
follows_back success P given e h = h
follows_back not_supported P given e h = h
follows_back (answered f) P given e h = h
follows_back (echoed s) P given e h = h
follows_back ended P given e h = cc
follows_back (replied lines) P given e h = h
follows_back (rejected f) P given e h = h

-- after a response nothing need be answered yet
follows_nothing : (r : Response) (limits : Limits) (s : State) (ts : Trees) → Follows r (Begins limits s ts) []
unfolding Begins
follows_nothing success limits s ts = tt
follows_nothing not_supported limits s ts = tt
follows_nothing (answered f) limits s ts = tt
follows_nothing (echoed text) limits s ts = tt
follows_nothing ended limits s ts = refl
follows_nothing (replied lines) limits s ts = tt
follows_nothing (rejected f) limits s ts = tt

-- what follows in one way follows in another that is weaker
follows_weaker : (r : Response) (P Q : List Answered → Type 0) (given : List Answered) → (P given → Q given) → Follows r P given → Follows r Q given
follows_weaker success P Q given f h = f h
follows_weaker not_supported P Q given f h = f h
follows_weaker (answered x) P Q given f h = f h
follows_weaker (echoed s) P Q given f h = f h
follows_weaker ended P Q given f h = h
follows_weaker (replied lines) P Q given f h = f h
follows_weaker (rejected x) P Q given f h = f h

-- what all commands are answered, the first of them are
pub begins_all : (limits : Limits) (s : State) (ts : Trees) (given : List Answered) → Runs limits s ts given → Begins limits s ts given
unfolding Runs Begins
begins_all limits s none [] h = tt
begins_all limits s none (a ∷ given) h = cc
begins_all limits s (more t ts) [] h = tt
begins_all limits s (more t ts) (a ∷ given) h = (h.0, follows_weaker a.response (Runs limits a.state ts) (Begins limits a.state ts) given (begins_all limits a.state ts given) h.1)

-- trees, and others after them
abbrev pub followed : Trees → Trees → Trees
followed none us = us
followed (more t ts) us = more t (followed ts us)

spelled_followed : (ts us : Trees) → spelled_all (followed ts us) ≡ spelled_all ts ++ spelled_all us
spelled_followed none us = refl
spelled_followed (more t ts) us = ap (λ r. spelled t ++ r) (spelled_followed ts us) ∙ sym (append_assoc (spelled t) (spelled_all ts) (spelled_all us))

trees_followed : (xs ys rest : List (ℕ × Lexeme)) (ts us : Trees) → AreTrees xs ts ys → AreTrees ys us rest → AreTrees xs (followed ts us) rest
trees_followed xs ys rest ts us h k = h ∙ ap (λ zs. spelled_all ts ++ zs) k ∙ sym (append_assoc (spelled_all ts) (spelled_all us) rest) ∙ ap (λ zs. zs ++ rest) (sym (spelled_followed ts us))

neither : (x y : Bool) → (x || y) ≡ false → (x ≡ false) × (y ≡ false)
neither true y e = cc
neither false y e = (refl, e)

module _ (limits : Limits) where
  -- after commands none of which ended the script, others are answered
  pub runs_later : (s : State) (ts : Trees) (given : List Answered) → Runs limits s ts given → list_any (λ (x : Answered). is_end x.response) given ≡ false → (us : Trees) (later : List Answered) → Runs limits (state_left s given) us later → Runs limits s (followed ts us) (given ++ later)
  unfolding Runs
  runs_later s none [] r on us later h = h
  runs_later s none (a ∷ given) r on us later h = cc
  runs_later s (more t ts) [] r on us later h = absurd r
  runs_later s (more t ts) (a ∷ given) r on us later h =
      let n = neither (is_end a.response) (list_any (λ (x : Answered). is_end x.response) given) on in
      (r.0, follows_on a.response (Runs limits a.state (followed ts us)) (given ++ later) n.0 (runs_later a.state ts given (follows_back a.response (Runs limits a.state ts) given n.0 r.1) n.1 us later h))

  pub begins_later : (s : State) (ts : Trees) (given : List Answered) → Runs limits s ts given → list_any (λ (x : Answered). is_end x.response) given ≡ false → (us : Trees) (later : List Answered) → Begins limits (state_left s given) us later → Begins limits s (followed ts us) (given ++ later)
  unfolding Runs Begins
  begins_later s none [] r on us later h = h
  begins_later s none (a ∷ given) r on us later h = cc
  begins_later s (more t ts) [] r on us later h = absurd r
  begins_later s (more t ts) (a ∷ given) r on us later h =
      let n = neither (is_end a.response) (list_any (λ (x : Answered). is_end x.response) given) on in
      (r.0, follows_on a.response (Begins limits a.state (followed ts us)) (given ++ later) n.0 (begins_later a.state ts given (follows_back a.response (Runs limits a.state ts) given n.0 r.1) n.1 us later h))

  -- one command more is answered
  pub runs_one_more : (ts : Trees) (given : List Answered) (s : State) (t : Tree) (a : Answered) → Runs limits s ts given → list_any (λ (x : Answered). is_end x.response) given ≡ false → Answers limits (state_left s given) t a → is_end a.response ≡ false → Runs limits s (followed ts (more t none)) (given ++ a ∷ [])
  unfolding Runs
  runs_one_more ts given s t a r on answers last = runs_later s ts given r on (more t none) (a ∷ []) (answers, follows_on a.response (Runs limits a.state none) [] last refl)

-- it leaves its own state
pub left_by_last : (s : State) (given : List Answered) (a : Answered) → state_left s (given ++ a ∷ []) ≡ a.state
left_by_last s [] a = refl
left_by_last s (b ∷ given) a = left_by_last b.state given a

module _ (limits : Limits) (bytes : List ℕ) where
  -- The commands up to an offset were answered so: what is answered from there on is answered after them.
  pub record Going (at : ℕ) (state : State) (given : List Answered) : Type 0 where
    pub onward : (us : Trees) (rest : List (ℕ × Lexeme)) → AreTrees (lexemes_from bytes at) us rest
        → (ts : Trees) × AreTrees (lexemes 0 0 bytes) ts rest
        × ((later : List Answered) → Runs limits state us later → Runs limits first_state ts (given ++ later))
        × ((later : List Answered) → Begins limits state us later → Begins limits first_state ts (given ++ later))

  -- commands that come first in the bytes were answered, and none ended the script
  pub going_after : (at : ℕ) (ts : Trees) (given : List Answered) → AreTrees (lexemes 0 0 bytes) ts (lexemes_from bytes at) → Runs limits first_state ts given → list_any (λ (x : Answered). is_end x.response) given ≡ false → Going at (state_left first_state given) given
  going_after at ts given trees runs on = record {
    onward = λ us rest h. (
      followed ts us,
      trees_followed (lexemes 0 0 bytes) (lexemes_from bytes at) rest ts us trees h,
      λ later x. runs_later limits first_state ts given runs on us later x,
      λ later x. begins_later limits first_state ts given runs on us later x,
    );
  }

  pub going_begins : (at : ℕ) → at ≡ 0 → Going at first_state []
  going_begins at e = record { onward = λ us rest a. (us, subst (λ n. AreTrees (lexemes_from bytes n) us rest) e a, λ later h. h, λ later h. h) }

  module _ (from after : ℕ) (t : Tree) (first : lexemes_from bytes from ≡ spelled t ++ lexemes_from bytes after) (state : State) (given : List Answered) (g : Going from state given) (a : Answered) (answers : Answers limits state t a) where
    -- the next command was answered: so much was answered in all
    pub answered_begins : (us : Trees) (rest : List (ℕ × Lexeme)) → AreTrees (lexemes_from bytes after) us rest → (ts : Trees) × AreTrees (lexemes 0 0 bytes) ts rest × Begins limits first_state ts (given ++ a ∷ [])
    unfolding Begins
    answered_begins us rest h =
        let o = g.onward (more t us) rest (first_tree (lexemes_from bytes from) (lexemes_from bytes after) t first us rest h) in
        (o.0, o.1, o.3 (a ∷ []) (answers, follows_nothing a.response limits a.state us))

    -- it ended the script
    pub answered_last : is_end a.response ≡ true → (us : Trees) (rest : List (ℕ × Lexeme)) → AreTrees (lexemes_from bytes after) us rest → (ts : Trees) × AreTrees (lexemes 0 0 bytes) ts rest × Runs limits first_state ts (given ++ a ∷ [])
    unfolding Runs
    answered_last e us rest h =
        let o = g.onward (more t us) rest (first_tree (lexemes_from bytes from) (lexemes_from bytes after) t first us rest h) in
        (o.0, o.1, o.2 (a ∷ []) (answers, follows_none a.response (Runs limits a.state us) e))

or_last : (x y : Bool) → (x || (y || false)) ≡ (x || y)
or_last true y = refl
or_last false true = refl
or_last false false = refl

or_second : (x y b : Bool) → x ≡ false → y ≡ b → (x || y) ≡ b
or_second true y b e h = cc
or_second false y b e h = h

told_is : (x z r f : Bool) → z ≡ (x || r) → r ≡ false → f ≡ false → x ≡ (z || f)
told_is x z r f e h k = sym (ap (λ g. z || g) k ∙ or-false z ∙ e ∙ ap (λ q. x || q) h ∙ or-false x)

-- each text is read
abbrev pub EachIsRead : List ℕ → ℕ → Type 0
EachIsRead bytes at = (ts : Trees) × (rest : List (ℕ × Lexeme)) × AreTrees (lexemes_from bytes at) ts rest × StopsAt (length bytes) 0 rest

-- what is written for one answer more
pub answers_more : (mode : Mode) (text : List ℕ) (given : List Answered) (a : Answered) → answers_text mode text (given ++ a ∷ []) ≡ answers_text mode text given ++ response_text mode text a
answers_more mode text given a = flat_map-append (response_text mode text) given (a ∷ []) ∙ ap (λ x. answers_text mode text given ++ x) (append-nil (response_text mode text a))

-- whether one was refused, of one answer more
pub told_more : (given : List Answered) (a : Answered) → list_any (λ (x : Answered). is_rejected x.response) (given ++ a ∷ []) ≡ (list_any (λ (x : Answered). is_rejected x.response) given || is_rejected a.response)
told_more given a = list_any-append (λ (x : Answered). is_rejected x.response) given (a ∷ []) ∙ or_last (list_any (λ (x : Answered). is_rejected x.response) given) (is_rejected a.response)

-- whether the script ended, of one answer more
pub ends_more : (given : List Answered) (a : Answered) (b : Bool) → list_any (λ (x : Answered). is_end x.response) given ≡ false → is_end a.response ≡ b → list_any (λ (x : Answered). is_end x.response) (given ++ a ∷ []) ≡ b
ends_more given a b e h = list_any-append (λ (x : Answered). is_end x.response) given (a ∷ []) ∙ or_last (list_any (λ (x : Answered). is_end x.response) given) (is_end a.response) ∙ or_second (list_any (λ (x : Answered). is_end x.response) given) (is_end a.response) b e h

module _ (limits : Limits) (mode : Mode) (text bytes : List ℕ) (whole : bytes ≡ kept text) where
  -- the trees of what is kept of the text are its commands, up to what stops them
  read_whole : (ts : Trees) (rest : List (ℕ × Lexeme)) (stop : Option Located) → AreTrees (lexemes 0 0 bytes) ts rest → EndsTrees (length bytes) rest stop → IsReadUpTo text ts (limited (is_long text) stop)
  read_whole ts rest stop a s = record {
    rest = rest;
    trees = subst (λ b. AreTrees (lexemes 0 0 b) ts rest) whole a;
    stop = stop;
    stops = subst (λ b. EndsTrees (length b) rest stop) whole s;
    is = refl;
  }

  -- what is written, in bytes that are kept
  abbrev pub Told : List Answered → List ℕ
  Told given = answers_text mode bytes given

  told_kept : (given : List Answered) → Told given ≡ answers_text mode (kept text) given
  told_kept given = ap (λ b. answers_text mode b given) whole

  module _ (at : ℕ) (state : State) (given : List Answered) (g : Going limits bytes at state given) where
    -- so much was begun
    pub begun_here : EachIsRead bytes at → IsBegun limits mode text (Told given)
    unfolding Begins
    begun_here r =
        let o = g.onward r.0 r.1 r.2 in
        let stop = stop_of (length bytes) r.1 r.3 in
        record {
          commands = o.0;
          end = limited (is_long text) stop.0;
          read = read_whole o.0 r.1 stop.0 o.1 stop.1;
          answers = given;
          begins = subst (Begins limits first_state o.0) (append-nil given) (o.3 [] tt);
          written = inl (told_kept given);
        }

    -- with these answers
    pub begun_with : EachIsRead bytes at → (t : IsBegun limits mode text (Told given)) × (t.answers ≡ given)
    unfolding begun_here
    begun_with r = (begun_here r, refl)

    module _ (going_on : list_any (λ (x : Answered). is_end x.response) given ≡ false) (stop : Option Located) (stops : EndsTrees (length bytes) (lexemes_from bytes at) stop) where
      -- all of the text was run
      all_run : (ts : Trees) × IsReadUpTo text ts (limited (is_long text) stop) × Runs limits first_state ts given
      unfolding Runs
      all_run =
          let o = g.onward none (lexemes_from bytes at) (nothing_first (lexemes_from bytes at)) in
          (o.0, read_whole o.0 (lexemes_from bytes at) stop o.1 stops, subst (Runs limits first_state o.0) (append-nil given) (o.2 [] refl))

      line_kept : Told given ++ closing_text bytes (limited (is_long text) stop) ≡ answers_text mode (kept text) given ++ closing_text (kept text) (closing given (limited (is_long text) stop))
      line_kept = ap (λ b. answers_text mode b given ++ closing_text b (limited (is_long text) stop)) whole ∙ ap (λ b. answers_text mode (kept text) given ++ closing_text (kept text) (closing_by b (limited (is_long text) stop))) (sym going_on)

      pub text_ends : IsTranscript limits mode text (Told given ++ closing_text bytes (limited (is_long text) stop)) (list_any (λ (x : Answered). is_rejected x.response) given || is_fault (limited (is_long text) stop))
      text_ends =
          let o = all_run in
          record {
            commands = o.0;
            end = limited (is_long text) stop;
            read = o.1;
            answers = given;
            runs = o.2;
            written = line_kept;
            told = ap (λ b. list_any (λ (x : Answered). is_rejected x.response) given || is_fault (closing_by b (limited (is_long text) stop))) (sym going_on);
          }

      -- the line of what ends it was begun
      pub line_begun : IsBegun limits mode text (Told given ++ closing_text bytes (limited (is_long text) stop))
      line_begun =
          let o = all_run in
          record { commands = o.0; end = limited (is_long text) stop; read = o.1; answers = given; begins = begins_all limits first_state o.0 given o.2; written = inr (o.2, line_kept) }

  module _ (from after : ℕ) (t : Tree) (first : lexemes_from bytes from ≡ spelled t ++ lexemes_from bytes after) (state : State) (given : List Answered) (g : Going limits bytes from state given) (a : Answered) (answers : Answers limits state t a) (r : EachIsRead bytes after) where
    -- one response more was begun
    pub begun_next : IsBegun limits mode text (Told given ++ response_text mode bytes a)
    begun_next =
        let o = answered_begins limits bytes from after t first state given g a answers r.0 r.1 r.2 in
        let stop = stop_of (length bytes) r.1 r.3 in
        record {
          commands = o.0;
          end = limited (is_long text) stop.0;
          read = read_whole o.0 r.1 stop.0 o.1 stop.1;
          answers = given ++ a ∷ [];
          begins = o.2;
          written = inl (sym (answers_more mode bytes given a) ∙ told_kept (given ++ a ∷ []));
        }

    -- the script ended
    pub script_ends : list_any (λ (x : Answered). is_end x.response) given ≡ false → is_end a.response ≡ true → is_rejected a.response ≡ false → IsTranscript limits mode text (Told given ++ response_text mode bytes a) (list_any (λ (x : Answered). is_rejected x.response) given)
    script_ends going_on last taken =
        let o = answered_last limits bytes from after t first state given g a answers last r.0 r.1 r.2 in
        let stop = stop_of (length bytes) r.1 r.3 in
        let left = ends_more given a true going_on last in
        let end = limited (is_long text) stop.0 in
        record {
          commands = o.0;
          end = end;
          read = read_whole o.0 r.1 stop.0 o.1 stop.1;
          answers = given ++ a ∷ [];
          runs = o.2;
          written = sym (answers_more mode bytes given a) ∙ told_kept (given ++ a ∷ []) ∙ sym (append-nil (answers_text mode (kept text) (given ++ a ∷ []))) ∙ ap (λ b. answers_text mode (kept text) (given ++ a ∷ []) ++ closing_text (kept text) (closing_by b end)) (sym left);
          told = told_is (list_any (λ (x : Answered). is_rejected x.response) given) (list_any (λ (x : Answered). is_rejected x.response) (given ++ a ∷ [])) (is_rejected a.response) (is_fault (closing (given ++ a ∷ []) end)) (told_more given a) taken (ap (λ b. is_fault (closing_by b end)) left);
        }
