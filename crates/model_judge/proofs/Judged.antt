-- From what was read and valued to the verdict.
use Rattle.std.proofs.Common.{◌≡◌, ◌≤◌, ℕ, inl, inr, List, length, Option, Some, None, false, option_map, refl, sym, ◌∙◌, subst, if◌then◌else◌}
use Rattle.std.specs.Prelude.{Result, Ok, Err, OnOk}
use Rattle.spec_text.specs.Places.{IsPlaceOf}
use Rattle.spec_sorts.specs.Signatures.{Signature}
use Rattle.spec_commands.specs.Stack.{signature_of}
use Rattle.spec_commands.specs.Checks.{asked, term_limit, HasNoCheck}
use Rattle.spec_model_files.specs.declared.ModelKind.TheVariants.{NoSuchCheck}
use Rattle.spec_model_files.specs.Faults.{ModelFault, is_of_script, faulty_text, ReadModel}
use Rattle.spec_model_files.specs.Definitions.{DefinedSymbol, interpretation_of}
use Rattle.spec_model_files.specs.Verdicts.{IsModelReading, IsModelVerdict, judged, no_such_check}
use Rattle.term_walks.specs.declared.values.Interp.{Interp}
use Rattle.script_standing.specs.declared.standing.Standing.{Standing}
use Rattle.script_standing.specs.Standings.{Stands}
use Rattle.model_read.specs.declared.errors.ModelStop.{ModelStop}
use Rattle.model_read.specs.declared.errors.ModelStop.TheVariants as stops
use Rattle.model_read.specs.Readings.{ReadsModel, SaysTables}
use Rattle.model_judge.specs.declared.untrue.Untrue.{Untrue}
use Rattle.model_judge.specs.Untrue.{untrue_view, first_untrue_at}
use Rattle.model_judge.specs.Verdicts.{fault_view, AnswersModel, IsModelOf, Refuses}
use Rattle.model_judge.proofs.Firsts.{first_same}

-- a model file's first fault is of the file
abbrev pub FaultsAreOfFile : Type 0
FaultsAreOfFile = (g : Signature) (text : List ℕ) (f : ModelFault) → IsModelReading g text (Err f) → (f.offset ≤ length text) × (is_of_script f.kind ≡ false)

-- the faults of verdicts are in their text
abbrev pub FaultsAreInside : Type 0
FaultsAreInside = (script model : List ℕ) (k : ℕ) (f : ModelFault) → IsModelVerdict script k model (Some f) → f.offset ≤ length (faulty_text script model f.kind)

module _ (script : List ℕ) (k : ℕ) (model : List ℕ) where
  -- a verdict with a fault is what is answered
  answered : (f : ModelFault) (r : ModelStop) → IsModelVerdict script k model (Some f) → Refuses (faulty_text script model f.kind) f.offset f.kind r → AnswersModel script k model (Err r)
  answered f (stops.Fault g) v s =
      let same : f ≡ fault_view g = λ i. record { offset = sym s.1 i; kind = sym s.0 i } in
      (subst (λ (x : ModelFault). IsModelVerdict script k model (Some x)) same v, subst (λ n. IsPlaceOf (faulty_text script model n) g.place) (sym s.0) s.2)
  answered f stops.Memory v s = absurd s

  -- there is no such check
  pub no_check : (r : ModelStop) → HasNoCheck term_limit script k → Refuses model 0 NoSuchCheck r → AnswersModel script k model (Err r)
  no_check r h s = answered no_such_check r (inr (h, refl)) s

  module _ (x : Standing) (l : Stands script k x) where
    verdict : (answer : ReadModel (List DefinedSymbol)) → IsModelReading (signature_of l.check.stack) model answer → IsModelVerdict script k model (judged l.check answer)
    verdict answer r = inl (l.check, l.current, record { answer = answer; reading = r; is = refl })

    -- the file has a fault
    pub not_read : FaultsAreOfFile → (stop : ModelStop) → ReadsModel x.table (signature_of l.check.stack) model (Err stop) → AnswersModel script k model (Err stop)
    not_read law (stops.Fault f) r =
        let other = (law (signature_of l.check.stack) model (fault_view f) r.0).1 in
        (verdict (Err (fault_view f)) r.0, subst (λ b. IsPlaceOf (if b then script else model) f.place) (sym other) r.1)
    not_read law stops.Memory r = tt

    module _ (interp : Interp) (r : SaysTables x.table (signature_of l.check.stack) model interp) where
      -- the first expression that is not true
      found_is : (found : Option Untrue) → option_map untrue_view found ≡ first_untrue_at x.table (interpretation_of (signature_of l.check.stack) r.definitions) x.expressions.items
          → IsModelVerdict script k model (option_map untrue_view found)
      found_is found h =
          let i = interpretation_of (signature_of l.check.stack) r.definitions in
          subst (IsModelVerdict script k model) (sym (h ∙ first_same x.table i x.expressions.items (asked l.check) l.terms l.starts)) (verdict (Ok r.definitions) r.reading)

      pub valid : None ≡ first_untrue_at x.table (interpretation_of (signature_of l.check.stack) r.definitions) x.expressions.items → IsModelVerdict script k model None
      valid h = found_is None h

      pub untrue_inside : FaultsAreInside → (u : Untrue) → Some (untrue_view u) ≡ first_untrue_at x.table (interpretation_of (signature_of l.check.stack) r.definitions) x.expressions.items → u.at ≤ length (faulty_text script model u.kind)
      untrue_inside law u h = law script model k (untrue_view u) (found_is (Some u) h)

      pub untrue_told : (u : Untrue) (s : ModelStop) → Some (untrue_view u) ≡ first_untrue_at x.table (interpretation_of (signature_of l.check.stack) r.definitions) x.expressions.items → Refuses (faulty_text script model u.kind) u.at u.kind s → AnswersModel script k model (Err s)
      untrue_told u s h p = answered (untrue_view u) s (found_is (Some u) h) p

-- what follows from a valid model
pub valid_gives : (script : List ℕ) (k : ℕ) (model : List ℕ) (r : Result (Unit {0}) ModelStop) → AnswersModel script k model r → (IsModelVerdict script k model None → IsModelOf script k model) → OnOk r (IsModelOf script k model)
valid_gives script k model (Ok u) a law = law a
valid_gives script k model (Err e) a law = tt
