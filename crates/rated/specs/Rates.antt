-- What Rated means: n batches, T periods, capacities cs, due periods ds, rates rs. Batches are counted from 0.
use Rattle.std.specs.Prelude.{ℕ, suc, ◌+◌, ◌-◌, ◌*◌, min, Bool, false, cond, List, [], ◌∷◌, map, length, Some, None, Option, nat_le, slice_set}
use Rattle.std.specs.List.{zip}
use Rattle.std.specs.Option.{option_map, option_and_then}
use Rattle.windows.specs.declared.window.Window.{Window}
use Rattle.windows.specs.WindowSets.{WindowSet, window}
use Rattle.windows.specs.Schedules.{kept, periods_in, schedules, hull, least}
use Rattle.rule.specs.Meaning.{Meaning, max_charge}
use Rattle.flat.specs.Tests.{same_size, within}
use Rattle.flat.specs.Rules.{or_max, flat_allows}

-- The charge of a schedule: the rate of each batch for each period that it waits before it is due.
abbrev pub spent : List ℕ → List ℕ → List ℕ → ℕ
spent [] ds x = 0
spent (r ∷ rs) [] x = 0
spent (r ∷ rs) (d ∷ ds) [] = 0
spent (r ∷ rs) (d ∷ ds) (v ∷ x) = r * (d - v) + spent rs ds x

-- The relaxed windows: each from period 1 to the lower of its latest and its due period.
abbrev pub relaxed : List ℕ → List Window → List Window
relaxed ds ws = map (λ p. window 1 (min p.1.latest p.0)) (zip ds ws)

-- The least charge of the schedules in some windows that keep the capacities; none if there is no such schedule.
abbrev pub cheapest : List ℕ → List ℕ → List ℕ → List Window → Option ℕ
cheapest cs ds rs ws = least (map (spent rs ds) (kept (within cs 1) (schedules ws)))

-- The same in the relaxed windows of ws with batch i forced into period v.
abbrev pub forced : List ℕ → List ℕ → List ℕ → List Window → ℕ → ℕ → Option ℕ
forced cs ds rs ws i v = cheapest cs ds rs (slice_set (relaxed ds ws) i (window v v))

-- A charge is up to the cap; one that does not exist is above every cap.
abbrev pub at_most : Option ℕ → ℕ → Bool
at_most None limit = false
at_most (Some a) limit = nat_le a limit

-- The periods of a window w into which batch i can be forced up to the cap, in order. They may have gaps.
abbrev pub affordable : List ℕ → List ℕ → List ℕ → List Window → ℕ → ℕ → Window → List ℕ
affordable cs ds rs ws limit i w = kept (λ v. at_most (forced cs ds rs ws i v) limit) (periods_in w)

-- The window from the first to the last of some periods; of none it is none.
abbrev pub final_of : ℕ → List ℕ → ℕ
final_of a [] = a
final_of a (b ∷ bs) = final_of b bs

abbrev pub ends_of : List ℕ → Option Window
ends_of [] = None
ends_of (a ∷ bs) = Some (window a (final_of a bs))

-- The window f i w for each window w of a batch i; none if one of them is none.
abbrev pub joint : Option Window → Option (List Window) → Option (List Window)
joint None o = None
joint (Some w) None = None
joint (Some w) (Some ws) = Some (w ∷ ws)

abbrev pub replaced : (ℕ → Window → Option Window) → List Window → Option (List Window)
replaced f [] = Some []
replaced f (w ∷ ws) = joint (f 0 w) (replaced (λ i. f (suc i)) ws)

-- Each window cut to its first and its last affordable period.
abbrev pub measured : List ℕ → List ℕ → List ℕ → ℕ → List Window → Option (List Window)
measured cs ds rs limit ws = replaced (λ i w. ends_of (affordable cs ds rs ws limit i w)) ws

abbrev pub over : ℕ → Option (List Window) → Option WindowSet
over T o = option_map (λ ws. record { periods = T; each = ws }) o

abbrev pub after_hull : List ℕ → List ℕ → List ℕ → ℕ → Option WindowSet → Option WindowSet
after_hull cs ds rs limit o = option_and_then (λ h. over h.periods (measured cs ds rs limit h.each)) o

-- The hull of the schedules in some windows that Flat allows, whatever they cost.
abbrev pub allowed_hull : ℕ → ℕ → List ℕ → List ℕ → WindowSet → Option WindowSet
allowed_hull n T cs ds w = hull w.periods (kept (flat_allows n T cs ds w.periods) (schedules w.each))

-- Rated allows what Flat allows and charges by the rates. Its floor is the least charge in the relaxed windows. It cuts to the
-- hull of the allowed schedules, and then each window of that to its affordable periods.
abbrev pub rated : ℕ → ℕ → List ℕ → List ℕ → List ℕ → Meaning
rated n T cs ds rs = record {
  fits = same_size n T;
  allows = flat_allows n T cs ds;
  charge = λ P x. spent rs ds x;
  floor = λ w. cond (same_size n T (length w.each) w.periods) (or_max (cheapest cs ds rs (relaxed ds w.each))) max_charge;
  cut = λ w limit. after_hull cs ds rs limit (allowed_hull n T cs ds w);
}
