-- From the end of a run to that of a run from memory to memory.
use Rattle.std.proofs.Common.{◌≡◌, ◌⊎◌, inl, inr, ℕ, zero, suc, ◌<◌, ◌≤◌, List, [], ◌∷◌, length, Option, Some, None, IsSome, IfSome, ap, arith}
use Rattle.std.specs.Prelude.{unwrap_or}
use Rattle.std.proofs.lemmas.Bool.{false≢true}
use Rattle.world_io.specs.Memory.{Text, text_named, SinkState, promised, seen_sink}
use Rattle.world_io.specs.Outside.{Rose}
use Rattle.world_io.specs.Writing.{SinkView, IsRoomFor, HasRoom, Sent, NotSent}
use Rattle.script_run.specs.declared.status.Status.{Status}
use Rattle.script_run.specs.declared.status.Status.TheVariants.{Done, Refused, Words, Memory, ReadFault, WriteFault}
use Rattle.script_run.specs.Scripts.{Holdings, ScriptRun, ScriptMeans}
use Rattle.script_run.proofs.Leaving.{answered_as}
use Rattle.judge_run.specs.Judgings.{longest_line}
use Rattle.judge_run.specs.Runs.{JudgedNames, JudgeMeans, BothHold, IsUnread}
use Rattle.smt_top.specs.Arguments.{Asked, runs, judges, generates, limits_by}
use Rattle.smt_top.specs.Generated.{GenMeans}
use Rattle.smt_top.specs.RunMeans.{UsageMeans, RunMeans, AreHeld}
use Rattle.smt_top.specs.InMemory.{WritesBytes, LacksRoom, GrowsByPrefix, JudgeEndsInMemory, ScriptEndsInMemory, UsageEndsInMemory, GenEndsInMemory, EndsInMemory}

-- a text that is known, and is this one
known_is : (o : Option (List ℕ)) (text : List ℕ) → IsSome o → IfSome o (λ t. t ≡ text) → o ≡ Some text
known_is None text h e = absurd (false≢true h)
known_is (Some t) text h e = ap Some e

lacks : (failing : List ℕ) (most room n : ℕ) → (IsRoomFor (promised failing most room) n → ⊥) → failing ≡ [] → 0 < most → room < n
lacks [] zero room n h e l = absurd (omega (arith, l))
lacks [] (suc m) room n h e l = less n room h
  where
    less : (n room : ℕ) → (n ≤ room → ⊥) → room < n
    less n room h = grind (arith, h)
lacks (k ∷ ks) most room n h e l = cc

-- what a sink of which the state was kept has written
same_written : (old new : SinkState) → seen_sink new ≡ seen_sink old → new.written ≡ old.written
same_written old new e = ap (λ (s : SinkView). unwrap_or s.known []) e

module _ (texts : List Text) (old new : SinkState) where
  abbrev before : SinkView
  before = seen_sink old

  abbrev after : SinkView
  after = seen_sink new

  lacks_room : (n : ℕ) → (HasRoom before n → ⊥) → LacksRoom old n
  lacks_room n h = lacks old.failing old.most old.room n h

  grows : (x : List ℕ) → Sent x before after → WritesBytes old new x
  grows x s = s.appended

  cut : (x : List ℕ) → NotSent x before after → GrowsByPrefix old new x
  cut x s = (s.prefix, lacks_room (length x) s.room)

  usage_ends : (status : Status) → UsageMeans status before after → UsageEndsInMemory status old new
  usage_ends Done h = h
  usage_ends Refused h = h
  usage_ends Words h = grows _ h.0
  usage_ends Memory h = same_written old new h
  usage_ends ReadFault h = h
  usage_ends WriteFault h = (cut _ h.0, lacks_room longest_line h.1)

  made : (status : Status) (n : ℕ) → GenMeans status n before after → GenEndsInMemory status n old new
  made Done n (line, is, w) = (line, is, grows _ w.0)
  made Refused n h = h
  made Words n h = h
  made Memory n h = same_written old new h
  made ReadFault n h = h
  made WriteFault n (line, is, w) = (line, is, cut _ w)

  judged : (status : Status) (n : JudgedNames) → JudgeMeans status n (text_named texts) before after
      → BothHold n (text_named texts) ⊎ IsUnread status before after → JudgeEndsInMemory status n texts old new
  judged Done n (script, text, s, t, (accepted, w)) (inl held) = (script, text, known_is _ script held.0 s, known_is _ text held.1 t, (accepted, grows _ w.0))
  judged Done n h (inr (inl e, same)) = cc
  judged Done n h (inr (inr e, same)) = cc
  judged Refused n (script, text, s, t, r) (inl held) = (script, text, known_is _ script held.0 s, known_is _ text held.1 t, (r.line, r.refuses, grows _ r.written.0))
  judged Refused n h (inr (inl e, same)) = cc
  judged Refused n h (inr (inr e, same)) = cc
  judged Words n h found = absurd h
  judged Memory n h found = same_written old new h
  judged ReadFault n h found = same_written old new h
  judged WriteFault n (script, text, s, t, ((line, is, w), room)) (inl held) =
      ((script, text, known_is _ script held.0 s, known_is _ text held.1 t, (line, is, cut _ w)), lacks_room longest_line room)
  judged WriteFault n h (inr (inl e, same)) = cc
  judged WriteFault n h (inr (inr e, same)) = cc

  ran : (status : Status) (r : ScriptRun) → ScriptMeans status r (text_named texts) before after
      → IsSome (text_named texts r.name) ⊎ IsUnread status before after → ScriptEndsInMemory status r texts old new
  ran Done r (text, e, (all, t, say, d)) (inl held) = (text, known_is _ text held e, (all, t, say, grows all d.sent))
  ran Done r h (inr (inl e, same)) = cc
  ran Done r h (inr (inr e, same)) = cc
  ran Refused r (text, e, (all, t, say, d)) (inl held) = (text, known_is _ text held e, (all, t, say, grows all d.sent))
  ran Refused r h (inr (inl e, same)) = cc
  ran Refused r h (inr (inr e, same)) = cc
  ran Words r h found = h
  ran Memory r (inl (text, e, (begun, t, say, d))) (inl held) = inl (text, known_is _ text held e, (begun, t, say, grows begun d.sent))
  ran Memory r (inr same) (inl held) = inr (same_written old new same)
  ran Memory r h (inr (e, same)) = inr (same_written old new same)
  ran ReadFault r (inl (text, e, (read, rest, is, a))) (inl held) = inl (text, known_is _ text held e, (read, rest, is, answered_as r.limits r.mode read _ (WritesBytes old new) (λ begun d. grows begun d.sent) a))
  ran ReadFault r (inr same) (inl held) = inr (same_written old new same)
  ran ReadFault r h (inr (e, same)) = inr (same_written old new same)
  ran WriteFault r (text, e, (begun, t, say, d)) (inl held) = (text, known_is _ text held e, (begun, t, say, cut begun d))
  ran WriteFault r h (inr (inl e, same)) = cc
  ran WriteFault r h (inr (inr e, same)) = cc

  pub ends_in_memory : (status : Status) (asked : Option Asked) → RunMeans status asked (text_named texts) before after
      → AreHeld asked (text_named texts) ⊎ IsUnread status before after → EndsInMemory status asked texts old new
  ends_in_memory status None h found = usage_ends status h
  ends_in_memory status (Some (judges n)) h found = judged status n h found
  ends_in_memory status (Some (generates n)) h found = made status n h
  ends_in_memory status (Some (runs mode name conflicts)) h found = ran status (record { mode = mode; name = name; limits = limits_by conflicts }) h found

-- where the sink failed, its count of faults rose
pub fault_counted : (asked : Option Asked) (holds : Holdings) (old new : SinkView) → RunMeans WriteFault asked holds old new → Rose old.faults new.faults
fault_counted None holds old new h = h.0.failed
fault_counted (Some (generates n)) holds old new (line, is, w) = w.failed
fault_counted (Some (judges n)) holds old new (script, text, s, t, ((line, is, w), room)) = w.failed
fault_counted (Some (runs mode name conflicts)) holds old new (text, e, (begun, t, say, d)) = d.failed
