-- What calls promise, from what they leave.
use Rattle.std.proofs.Common.{◌≡◌, ℕ, List, [], ◌∷◌, map, reverse, sym}
use mathlib.Core.List.{reverse_aux}
use Rattle.windows.proofs.Held.{held_proper}
use Rattle.rule.specs.Meaning.{Meaning, Lawful}
use Rattle.runs.specs.Run.{State, read, next, after}
use Rattle.runs.specs.Run.{Call as Asked}
use Rattle.runs.specs.Law.{Given, Upheld}
use Rattle.runs.proofs.Runs.{every_run, read_stays, call_law}
use Rattle.search.specs.declared.call.Call.{Call}
use Rattle.search.specs.declared.call.Call.TheVariants.{Open, Step, Tighten, Read}
use Rattle.search.specs.Held.{call_of}
use Rattle.search.specs.Promises.{Goes}

-- All windows of the code are proper.
given_one : (c : Call) (asks : List Asked) → Given asks → Given (call_of c ∷ asks)
given_one (Open w limit) asks g = (held_proper w, g)
given_one Step asks g = g
given_one (Tighten limit) asks g = g
given_one (Read room) asks g = g

given_onto : (cs : List Call) (asks : List Asked) → Given asks → Given (reverse_aux (map call_of cs) asks)
given_onto [] asks g = g
given_onto (c ∷ cs) asks g = given_onto cs (call_of c ∷ asks) (given_one c asks g)

module _ {m : Meaning} (law : Lawful m) where
  -- So the law holds after one call more, and after every list of calls.
  pub goes : (c : Call) {s t : State} → t ≡ next m s (call_of c) → Goes m (call_of c) s t
  goes c {s = s} {t = t} e = record { exact = e; law = λ cs g h. call_law m law (call_of c) cs s t (given_one c cs g) e h }

  pub read_goes : {s : State} {room : ℕ} → Goes m (read room) s s
  read_goes {s = s} {room = room} = goes (Read room) (sym (read_stays m s room))

  pub upheld : (cs : List Call) → Upheld m (reverse (map call_of cs)) (after m (reverse (map call_of cs)))
  upheld cs = every_run m law (reverse (map call_of cs)) (given_onto cs [] tt)
