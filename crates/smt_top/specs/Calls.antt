-- What the parts of a run promise.
use Rattle.std.specs.Prelude.{◌≡◌, Option, Some, None, Result, Ok, Err, ⊤}
use Rattle.smt_session.specs.Sessions.{mode_meant}
use Rattle.smt_top.specs.declared.arguments.RunRequest.{RunRequest}
use Rattle.smt_top.specs.declared.arguments.Request.{Request}
use Rattle.smt_top.specs.declared.arguments.Request.TheVariants as request
use Rattle.smt_top.specs.declared.arguments.ArgumentsStop.{ArgumentsStop}
use Rattle.smt_top.specs.declared.arguments.ArgumentsStop.TheVariants as stop
use Rattle.script_run.specs.Scripts.{ScriptRun}
use Rattle.judge_run.specs.Calls.{names_of}
use Rattle.smt_top.specs.Arguments.{Asked, runs, judges, generates, limits_by}

-- the run that a request asks for
abbrev pub run_of : RunRequest → ScriptRun
run_of r = record { mode = mode_meant r.mode; name = r.name.now; limits = limits_by r.conflicts }

-- what a request asks for
abbrev pub asked_by : Request → Asked
asked_by (request.Run r) = runs (mode_meant r.mode) r.name.now r.conflicts
asked_by (request.Judge r) = judges (names_of r)
asked_by (request.Generate n) = generates n

-- what the arguments ask for, or that they ask for nothing, unless memory ran out
abbrev pub Asks : Option Asked → Result Request ArgumentsStop → Type 0
Asks wanted (Ok r) = wanted ≡ Some (asked_by r)
Asks wanted (Err stop.Wrong) = wanted ≡ None
Asks wanted (Err stop.Memory) = ⊤
