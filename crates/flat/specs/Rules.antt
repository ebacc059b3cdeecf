-- What Slots and Flat mean: n batches, T periods, capacities cs, due periods ds.
use Rattle.std.specs.Prelude.{ℕ, Bool, cond, ◌&&◌, List, map, length, Option, nat_le, unwrap_or}
use Rattle.windows.specs.WindowSets.{WindowSet}
use Rattle.windows.specs.Schedules.{kept, schedules, hull, least}
use Rattle.rule.specs.Meaning.{Meaning, max_charge}
use Rattle.flat.specs.Tests.{same_size, within, on_time, waited}

-- The least charge, or C where there is none.
abbrev pub or_max : Option ℕ → ℕ
or_max o = unwrap_or o max_charge

-- Slots allows at most c(t) batches in each period t.
abbrev pub slots_allows : ℕ → ℕ → List ℕ → ℕ → List ℕ → Bool
slots_allows n T cs P x = same_size n T (length x) P && within cs 1 x

-- It charges nothing, and cuts to the hull of the allowed schedules.
abbrev pub slots : ℕ → ℕ → List ℕ → Meaning
slots n T cs = record {
  fits = same_size n T;
  allows = slots_allows n T cs;
  charge = λ P x. 0;
  floor = λ w. cond (same_size n T (length w.each) w.periods) 0 max_charge;
  cut = λ w limit. hull w.periods (kept (slots_allows n T cs w.periods) (schedules w.each));
}

-- Flat allows what Slots allows if no batch comes after its due period.
abbrev pub flat_allows : ℕ → ℕ → List ℕ → List ℕ → ℕ → List ℕ → Bool
flat_allows n T cs ds P x = on_time ds x && slots_allows n T cs P x

-- An allowed schedule with a charge up to the cap.
abbrev pub flat_within : ℕ → ℕ → List ℕ → List ℕ → ℕ → ℕ → List ℕ → Bool
flat_within n T cs ds P limit x = flat_allows n T cs ds P x && nat_le (waited ds x) limit

-- The least charge of an allowed schedule in the windows.
abbrev pub least_waited : ℕ → ℕ → List ℕ → List ℕ → WindowSet → Option ℕ
least_waited n T cs ds w = least (map (waited ds) (kept (flat_allows n T cs ds w.periods) (schedules w.each)))

-- It charges the periods waited, its floor is the least charge of an allowed schedule in the windows, and it cuts to the hull
-- of the allowed schedules up to the cap.
abbrev pub flat : ℕ → ℕ → List ℕ → List ℕ → Meaning
flat n T cs ds = record {
  fits = same_size n T;
  allows = flat_allows n T cs ds;
  charge = λ P x. waited ds x;
  floor = λ w. or_max (least_waited n T cs ds w);
  cut = λ w limit. hull w.periods (kept (flat_within n T cs ds w.periods limit) (schedules w.each));
}
