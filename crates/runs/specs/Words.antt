-- The words for the phases of a search, and for what a step did.
use Rattle.std.specs.Prelude.{ℕ, List, codes}
use Rattle.runs.specs.declared.phase.Phase.{Phase}
use Rattle.runs.specs.declared.phase.Phase.TheVariants.{Idle, Running, Done}
use Rattle.runs.specs.declared.step.Step.{Step}
use Rattle.runs.specs.declared.step.Step.TheVariants.{Closed, Plan, Split}

abbrev pub phase_word : Phase → List ℕ
phase_word Idle = codes "idle"
phase_word Running = codes "running"
phase_word Done = codes "done"

abbrev pub step_word : Step → List ℕ
step_word Closed = codes "closed"
step_word Plan = codes "plan"
step_word Split = codes "split"
