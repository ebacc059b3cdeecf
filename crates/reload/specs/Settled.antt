-- Windows of one period each, and their one schedule.
use Rattle.std.specs.List.{list_any}
use Rattle.std.specs.Prelude.{◌≡◌, ℕ, ◌<◌, false, List, length, ◌==◌, slice_index}
use Rattle.std.proofs.Common.{sym, ◌∙◌}
use Rattle.std.proofs.lemmas.List.{length-map, get_or-map}
use Rattle.std.proofs.lemmas.Bool.{eq-eqb, eqb-true, not-false, not_from_true}
use Rattle.windows.specs.declared.window.Window.{Window}
use Rattle.windows.specs.WindowSets.{Lies, Single, earliest_of, latest_of, nowhere}
use Rattle.windows.proofs.Enumerated.{single_lies_is}
use Rattle.rule.proofs.Entries.{none_some, each_not}
use Rattle.reload.specs.Rules.{wide, places_of}

pub length_places : (ws : List Window) → length (places_of ws) ≡ length ws
length_places ws = length-map ws (λ w. w.earliest)

pub place_at : (ws : List Window) (k : ℕ) → k < length ws → slice_index (places_of ws) k ≡ earliest_of ws k
place_at ws k h = get_or-map (λ w. w.earliest) ws k nowhere 0 h

single_places : (ws : List Window) → list_any wide ws ≡ false → Single ws (places_of ws)
single_places ws e =
    record {
      same_size = length_places ws;
      starts = λ k h. sym (place_at ws k h);
      ends = λ k h. sym (place_at ws k h ∙ eqb-true (earliest_of ws k) (latest_of ws k) (not-false (earliest_of ws k == latest_of ws k) (each_not wide ws nowhere e k h)));
    }

pub places_are : (ws : List Window) (x : List ℕ) → list_any wide ws ≡ false → Lies x ws → x ≡ places_of ws
places_are ws x e l = single_lies_is ws (places_of ws) x (single_places ws e) l

pub none_wide : (ws : List Window) → ((k : ℕ) → k < length ws → earliest_of ws k ≡ latest_of ws k) → list_any wide ws ≡ false
none_wide ws h = none_some wide ws nowhere (λ k b. not_from_true (earliest_of ws k == latest_of ws k) (eq-eqb (earliest_of ws k) (latest_of ws k) (h k b)))
