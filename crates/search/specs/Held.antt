-- What a search holds.
use Rattle.std.specs.Prelude.{Option}
use Rattle.std.specs.Option.{option_map}
use Rattle.windows.specs.Filling.{set_of}
use Rattle.windows.specs.Halves.{first_periods}
use Rattle.runs.specs.Run.{Plan, State, «open», step, tighten, read}
use Rattle.runs.specs.Run.{Call as Asked}
use Rattle.search.specs.declared.call.Call.{Call}
use Rattle.search.specs.declared.call.Call.TheVariants.{Open, Step, Tighten, Read}
use Rattle.search.specs.declared.held.Held.{Held}
use Rattle.search.specs.declared.inner.Inner.{Inner}
use Rattle.search.specs.Table.{stack}

abbrev pub plan_of : Option Held → Option Plan
plan_of = option_map (λ h. record { schedule = first_periods (set_of h.windows).each; charge = h.charge })

-- The state that a search is in.
abbrev pub state : Inner → State
state i = record { phase = i.phase; cap = i.cap; parts = stack i.parts i.count; plan = plan_of i.plan }

-- What a call of the code asks.
abbrev pub call_of : Call → Asked
call_of (Open w limit) = «open» (set_of w) limit
call_of Step = step
call_of (Tighten limit) = tighten limit
call_of (Read room) = read room
