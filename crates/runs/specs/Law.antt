-- What is true of a search after every list of calls, refused ones included. In every list the newest call is first.
use Rattle.std.specs.Prelude.{◌≡◌, ℕ, ◌+◌, ◌-◌, ◌*◌, ◌<◌, ◌≤◌, Bool, true, cond, ◌&&◌, ◌≢◌, ◌⊎◌, List, [], ◌∷◌, length, Some, None, Option, nat_le, nat_lt, slice_index, slice_index_or}
use Rattle.windows.specs.declared.window.Window.{Window}
use Rattle.windows.specs.WindowSets.{WindowSet, Lies, Proper}
use Rattle.windows.specs.Hulls.{Among}
use Rattle.rule.specs.Meaning.{Meaning, Lawful, max_charge}
use Rattle.rule.specs.Narrowing.{fitting}
use Rattle.runs.specs.declared.phase.Phase.TheVariants.{Done}
use Rattle.runs.specs.Run.{Plan, State, Call, «open», step, tighten, read, refusal, accepted, after}

-- The windows of the last accepted open as they were handed in, and the cap now standing: that of this open, or of the last
-- accepted tighten after it.
pub record Standing : Type 0 where
  pub windows : WindowSet
  pub cap : ℕ

-- An open is accepted if the windows fit and the cap is at most C.
abbrev pub opens : Meaning → WindowSet → ℕ → Bool
opens m w limit = fitting m w && nat_le limit max_charge

-- A tighten is accepted if its cap is at most C and below the one standing.
abbrev pub lowered : ℕ → Option Standing → Option Standing
lowered limit None = None
lowered limit (Some o) = cond (nat_le limit max_charge && nat_lt limit o.cap) (Some (record { windows = o.windows; cap = limit })) (Some o)

-- Nothing stands before the first accepted open.
abbrev pub standing : Meaning → List Call → Option Standing
standing m [] = None
standing m («open» w limit ∷ cs) = cond (opens m w limit) (Some (record { windows = w; cap = limit })) (standing m cs)
standing m (step ∷ cs) = standing m cs
standing m (tighten limit ∷ cs) = lowered limit (standing m cs)
standing m (read room ∷ cs) = standing m cs

-- How many steps were accepted since the last accepted open.
abbrev pub steps : Meaning → List Call → ℕ
steps m [] = 0
steps m («open» w limit ∷ cs) = cond (opens m w limit) 0 (steps m cs)
steps m (step ∷ cs) = cond (accepted m (after m cs) step) 1 0 + steps m cs
steps m (tighten limit ∷ cs) = steps m cs
steps m (read room ∷ cs) = steps m cs

-- A contender: allowed, in the windows opened, with a charge up to the cap standing.
pub record Contends (m : Meaning) (o : Standing) (x : List ℕ) : Type 0 where
  pub lies : Lies x o.windows.each
  pub allowed : m.allows o.windows.periods x ≡ true
  pub cheap : m.charge o.windows.periods x ≤ o.cap

abbrev pub Contender : Meaning → Option Standing → List ℕ → Type 0
Contender m None x = ⊥
Contender m (Some o) x = Contends m o x

-- x has the later period for the first batch where the two differ.
pub record Later (x y : List ℕ) : Type 0 where
  pub at : ℕ
  pub within : at < length x
  pub same : (j : ℕ) → j < at → slice_index x j ≡ slice_index y j
  pub more : slice_index_or y at 0 < slice_index x at

-- Over T periods x is better than y: its charge is lower, or equal with a later period where they first differ.
abbrev pub Better : Meaning → ℕ → List ℕ → List ℕ → Type 0
Better m T x y = (m.charge T x < m.charge T y) ⊎ ((m.charge T x ≡ m.charge T y) × Later x y)

-- x lies in an open part.
pub record Open (parts : List WindowSet) (x : List ℕ) : Type 0 where
  pub part : WindowSet
  pub among : Among part parts
  pub lies : Lies x part.each

abbrev pub periods_of : Option Standing → ℕ
periods_of None = 1
periods_of (Some o) = o.windows.periods

-- The plan held, if any, is a contender with its charge, and every contender better than it lies in an open part; with no plan
-- held every contender does.
abbrev pub NothingLost : Meaning → Option Standing → List WindowSet → Option Plan → Type 0
NothingLost m o parts None = (x : List ℕ) → Contender m o x → Open parts x
NothingLost m o parts (Some p) = Contender m o p.schedule × (p.charge ≡ m.charge (periods_of o) p.schedule) × ((x : List ℕ) → Contender m o x → Better m (periods_of o) x p.schedule → Open parts x)

-- At the end a plan is held exactly when there is a contender, and it is better than every other one.
abbrev pub BestAtEnd : Meaning → Option Standing → Option Plan → Type 0
BestAtEnd m o None = (x : List ℕ) → Contender m o x → ⊥
BestAtEnd m o (Some p) = Contender m o p.schedule × ((x : List ℕ) → Contender m o x → x ≢ p.schedule → Better m (periods_of o) p.schedule x)

-- The product of the lengths of some windows; of none it is 1.
abbrev pub product : List Window → ℕ
product [] = 1
product (w ∷ ws) = (w.latest + 1 - w.earliest) * product ws

abbrev pub windows_of : Option Standing → List Window
windows_of None = []
windows_of (Some o) = o.windows.each

-- The law of a search that is in the state s after the calls cs.
pub record Upheld (m : Meaning) (cs : List Call) (s : State) : Type 0 where
  -- no contender is lost
  pub nothing_lost : NothingLost m (standing m cs) s.parts s.plan
  -- a search that is done holds the best contender
  pub best_at_end : s.phase ≡ Done → BestAtEnd m (standing m cs) s.plan
  -- after an accepted open and until done every step is accepted
  pub accepts : (o : Standing) → standing m cs ≡ Some o → s.phase ≢ Done → refusal m s step ≡ 0
  -- and fewer than 2 × P were, P the product of the lengths of the windows opened
  pub few_steps : steps m cs < 2 * product (windows_of (standing m cs))
  -- there are at most 6 × n + 1 open parts
  pub room : length s.parts ≤ 6 * length (windows_of (standing m cs)) + 1

-- Every set of windows that was passed to an open is a proper one.
abbrev pub Given : List Call → Type 0
Given [] = Unit {0}
Given («open» w limit ∷ cs) = Proper w × Given cs
Given (step ∷ cs) = Given cs
Given (tighten limit ∷ cs) = Given cs
Given (read room ∷ cs) = Given cs

-- The law holds for every lawful rule after every list of calls.
abbrev pub EveryRun : Type 0
EveryRun = (m : Meaning) → Lawful m → (cs : List Call) → Given cs → Upheld m cs (after m cs)
