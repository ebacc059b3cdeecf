-- What a pair of rules and a weighted rule mean.
use Rattle.std.specs.Prelude.{ℕ, zero, suc, ◌+◌, ◌-◌, ◌*◌, ◌/◌, min, Bool, cond, ◌&&◌, List, Some, None, sum_by, Option, ◌==◌, nat_le}
use Rattle.std.specs.Option.{option_and_then}
use Rattle.std.specs.Cmp.Lexicographic.{pointwise}
use Rattle.windows.specs.declared.window.Window.{Window}
use Rattle.windows.specs.WindowSets.{WindowSet}
use Rattle.rule.specs.Meaning.{Meaning, max_charge}

-- A side's cut under the cap less a floor of the other side; none if that floor is above the cap.
abbrev pub less : Meaning → ℕ → ℕ → WindowSet → Option WindowSet
less m limit floor w = cond (nat_le floor limit) (m.cut w (limit - floor)) None

-- The same, with the other side's floor of these windows.
abbrev pub beside : Meaning → Meaning → ℕ → WindowSet → Option WindowSet
beside m other limit w = less m limit (other.floor w) w

-- A round of a pair: the left side first, then the right side on the windows that are left. Neither has the whole cap.
abbrev pub round : Meaning → Meaning → ℕ → WindowSet → Option WindowSet
round a b limit w = option_and_then (beside b a limit) (beside a b limit w)

-- Whether two lists of windows are the same.
abbrev pub same : List Window → List Window → Bool
same vs ws = pointwise (λ v w. v.earliest == w.earliest && v.latest == w.latest) vs ws

-- At most k rounds, up to the first that changes nothing.
abbrev pub rounds : (WindowSet → Option WindowSet) → ℕ → WindowSet → Option WindowSet
rounds one zero w = Some w
rounds one (suc k) w = option_and_then (λ v. cond (same v.each w.each) (Some v) (rounds one k v)) (one w)

-- By how many periods the windows are longer than one each. A round that changes something makes it less, so one round more
-- than the slack is enough for the last to change nothing.
abbrev pub slack : List Window → ℕ
slack ws = sum_by (λ w. w.latest - w.earliest) ws

-- The pair of two rules: it fits what both fit, allows what both allow with charges adding to at most C, and charges the sum.
-- Its floor is the sum of the floors, above C counting as C. Its cut is that of the rounds.
abbrev pub pair : Meaning → Meaning → Meaning
pair a b = record {
  fits = λ n T. a.fits n T && b.fits n T;
  allows = λ T x. (a.allows T x && b.allows T x) && nat_le (a.charge T x + b.charge T x) max_charge;
  charge = λ T x. a.charge T x + b.charge T x;
  floor = λ w. min (a.floor w + b.floor w) max_charge;
  cut = λ w limit. rounds (round a b limit) (suc (slack w.each)) w;
}

-- A rule with a weight: it fits what the rule below fits, allows what that allows if the weight times the charge is at most C,
-- and charges that product. Its floor is the weight times the floor, above C counting as C. Its cut is the cut below under the
-- cap divided by the weight, rounded down.
abbrev pub weighted : ℕ → Meaning → Meaning
weighted weight m = record {
  fits = m.fits;
  allows = λ T x. m.allows T x && nat_le (weight * m.charge T x) max_charge;
  charge = λ T x. weight * m.charge T x;
  floor = λ w. min (weight * m.floor w) max_charge;
  cut = λ w limit. m.cut w (limit / weight);
}
