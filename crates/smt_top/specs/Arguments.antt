-- The arguments of a run.
use Rattle.std.specs.Prelude.{◌≡◌, ℕ, ◌≤◌, true, ◌&&◌, List, [], ◌∷◌, map, codes, decimal, Option, Some, None}
use Rattle.std.specs.Prelude.{option_map, option_and_then, unwrap_or, String, string_bytes, nat_le, if◌then◌else◌}
use Rattle.std.specs.Str.{bytes_eq}
use Rattle.std.specs.Str.Parse.{digits_value}
use Rattle.std.specs.declared.alloc.Global.{Global}
use Rattle.clap.specs.Words.{App, Row, Rule, Text, Kinds, fault_of, first_of, new_app, new_rule, subcommand_of}
use Rattle.clap.specs.Words.{with_rule, with_subcommand}
use Rattle.spec_commands.specs.Checks.{term_limit}
use Rattle.spec_sessions.specs.Evidence.{Limits}
use Rattle.spec_sessions.specs.Responses.{Mode, solve, certify}
use Rattle.judge_run.specs.Judgings.{Judging, a_proof, a_model}
use Rattle.judge_run.specs.Runs.{JudgedNames}

-- What the arguments of a run ask for.
pub data Asked : Type 0 where
  -- a script is to be run: how much is written, its name, and how many conflicts each search of a check may learn from
  runs : Mode → List ℕ → ℕ → Asked
  -- a text is to be judged against a script, as a proof or as a model
  judges : JudgedNames → Asked
  -- the script of this size is to be made and run
  generates : ℕ → Asked

-- an option of this name, with any word as its value
abbrev pub option_named : Text → Rule
option_named id = record (new_rule id) { long = Some id }

-- an argument that must be there, in its place
abbrev pub required_argument : Text → Rule
required_argument id = record (new_rule id) { required = true }

-- a command of this name with the arguments `[--conflicts N] [NAME]`
abbrev pub run_app : Text → App
run_app name = with_rule (with_rule (new_app name) (option_named (codes "conflicts"))) (new_rule (codes "name"))

-- a command of this name with the arguments `[--at K] SCRIPT TEXT`, the last one of another name
abbrev pub judge_app : (name text : Text) → App
judge_app name text = with_rule (with_rule (with_rule (new_app name) (option_named (codes "at")))
    (required_argument (codes "script"))) (required_argument text)

-- the command `gen N`
abbrev pub gen_app : App
gen_app = with_rule (new_app (codes "gen")) (required_argument (codes "size"))

-- the program without its commands: one must be there, and no word asks for help or a version
abbrev pub bare_app : App
bare_app =
    let top = new_app (codes "smt_cli") in
    record top {
      top = record top.top {
        disable_help_flag = true;
        disable_help_subcommand = true;
        disable_version_flag = true;
        subcommand_required = true;
      };
    }

-- the program with the commands that run a script, and no other
abbrev pub app_with_runs : App
app_with_runs = with_subcommand (with_subcommand bare_app (run_app (codes "solve")).top) (run_app (codes "certify")).top

-- the program with these and the commands that judge a text, and no other
abbrev pub app_with_judgings : App
app_with_judgings = with_subcommand (with_subcommand app_with_runs (judge_app (codes "check") (codes "proof")).top)
    (judge_app (codes "validate") (codes "model")).top

-- the program
abbrev pub smt_app : App
smt_app = with_subcommand app_with_judgings gen_app.top

-- no number of the arguments is greater
abbrev pub most_number : ℕ
most_number = 1000000000

-- how many conflicts a search of a check may learn from where no word says so
abbrev pub usual_conflicts : ℕ
usual_conflicts = 1000000

-- the word is the number's decimal digits, with no sign and no zero before them, and the number is from 1 to
-- `most_number`
abbrev pub IsNumber : List ℕ → ℕ → Type 0
IsNumber word n = (word ≡ decimal n) × (1 ≤ n) × (n ≤ most_number)

-- the number of which the word is the digits, where there is one: no other than the value of the digits
unfoldable pub number_of : List ℕ → Option ℕ
number_of word =
    let n = digits_value 10 word in
    if bytes_eq word (decimal n) && (nat_le 1 n && nat_le n most_number) then Some n else None

-- no script that is made has a greater size
abbrev pub most_size : ℕ
most_size = 10000

-- this number, where it is a size
abbrev pub as_size : ℕ → Option ℕ
as_size n = if nat_le n most_size then Some n else None

-- the size of which the word is the digits, where there is one
abbrev pub size_of : List ℕ → Option ℕ
size_of word = option_and_then as_size (number_of word)

-- the number that the value of an option stands for, and this one where the option has none
abbrev pub number_or : ℕ → Option Text → Option ℕ
number_or usual None = Some usual
number_or usual (Some word) = number_of word

-- the limits of a run in which each search of a check may learn from so many conflicts
abbrev pub limits_by : ℕ → Limits
limits_by conflicts = record { conflicts = conflicts; terms = term_limit }

-- the run that the values of a command's matches ask for; where no name is given, that of the empty name
abbrev pub run_in : Mode → List Row → Option Asked
run_in mode rows = option_map (runs mode (unwrap_or (first_of (codes "name") rows) []))
    (number_or usual_conflicts (first_of (codes "conflicts") rows))

-- all three are there, for a text that is judged so
abbrev pub all_three : Judging → Option Text → Option Text → Option ℕ → Option JudgedNames
all_three judging (Some script) (Some text) (Some at) =
    Some (record { judging = judging; script = script; at = at; text = text })
all_three _ _ _ _ = None

-- the values of `script`, `at` and the argument of this name, of a command's matches
abbrev pub names_in : Judging → Text → List Row → Option JudgedNames
names_in judging text rows = all_three judging (first_of (codes "script") rows) (first_of text rows)
    (number_or 1 (first_of (codes "at") rows))

-- the size that the value of `size` of a command's matches stands for
abbrev pub size_in : List Row → Option ℕ
size_in rows = option_and_then size_of (first_of (codes "size") rows)

-- what a command asks for, by its name and its matches
abbrev pub asked_in : Text × List Row → Option Asked
asked_in m =
    if bytes_eq m.0 (codes "solve") then run_in solve m.1
    else if bytes_eq m.0 (codes "certify") then run_in certify m.1
    else if bytes_eq m.0 (codes "check") then option_map judges (names_in a_proof (codes "proof") m.1)
    else if bytes_eq m.0 (codes "validate") then option_map judges (names_in a_model (codes "model") m.1)
    else if bytes_eq m.0 (codes "gen") then option_map generates (size_in m.1)
    else None

-- by the faults of the arguments and the command that they name
abbrev pub asked_by_faults : Kinds → Option (Text × List Row) → Option Asked
asked_by_faults [] met = option_and_then asked_in met
asked_by_faults (k ∷ ks) met = None

-- what the arguments of a run ask for, by their bytes; the first is the program's name. They are taken where `clap` by
-- its definition finds no fault in them for `smt_app`, and the value of each option that is given stands for a number.
abbrev pub asked_of : List Text → Option Asked
asked_of arguments = asked_by_faults (fault_of smt_app arguments) (subcommand_of smt_app arguments)

-- what the arguments of a run ask for, where they are taken
unfoldable pub asked : List (String Global) → Option Asked
asked arguments = asked_of (map string_bytes arguments)
