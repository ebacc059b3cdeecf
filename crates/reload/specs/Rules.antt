-- What Reload means: n batches, T periods, K kinds, the kinds ks of the batches, the charges q.
use Rattle.std.specs.List.{list_any}
use Rattle.std.specs.Prelude.{ℕ, Bool, cond, not, ◌&&◌, ◌||◌, List, map, length, replicate, Some, None, ◌==◌, nat_le}
use Rattle.windows.specs.declared.window.Window.{Window}
use Rattle.rule.specs.Meaning.{Meaning, max_charge}
use Rattle.flat.specs.Tests.{same_size, within}
use Rattle.reload.specs.Loads.{reloads_of}

-- A window is not one period.
abbrev pub wide : Window → Bool
wide w = not (w.earliest == w.latest)

-- The schedule of windows of one period each.
abbrev pub places_of : List Window → List ℕ
places_of ws = map (λ w. w.earliest) ws

-- Reload allows at most one batch in each period.
abbrev pub reload_allows : ℕ → ℕ → ℕ → List ℕ → Bool
reload_allows n T P x = same_size n T (length x) P && within (replicate T 1) 1 x

-- An allowed schedule with a charge up to the cap.
abbrev pub reload_within : ℕ → ℕ → ℕ → List ℕ → List ℕ → ℕ → ℕ → List ℕ → Bool
reload_within n T K ks q P limit x = reload_allows n T P x && nat_le (reloads_of K ks q P x) limit

-- While some window is wide, the floor is 0 and the cut changes nothing. Once every window is one period, the floor is the
-- charge of that schedule if it is allowed, else 0, and the cut is none unless it is allowed with a charge up to the cap. The
-- floor of windows that don't fit is C.
abbrev pub reload : ℕ → ℕ → ℕ → List ℕ → List ℕ → Meaning
reload n T K ks q = record {
  fits = same_size n T;
  allows = reload_allows n T;
  charge = reloads_of K ks q;
  floor = λ w. cond (same_size n T (length w.each) w.periods) (cond (not (list_any wide w.each) && reload_allows n T w.periods (places_of w.each)) (reloads_of K ks q w.periods (places_of w.each)) 0) max_charge;
  cut = λ w limit. cond (list_any wide w.each || reload_within n T K ks q w.periods limit (places_of w.each)) (Some w) None;
}
