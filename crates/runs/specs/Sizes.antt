-- How often windows can be split.
use Rattle.std.specs.Prelude.{ℕ, ◌+◌, ◌^◌, ◌≤◌, List, [], ◌∷◌}
use Rattle.windows.specs.declared.window.Window.{Window}

-- Each window has at most 2 ^ e periods, with exponents e that sum to at most t: t splits leave one period each.
abbrev pub Sized : List Window → ℕ → Type 0
Sized [] t = Unit {0}
Sized (w ∷ ws) t = (e : ℕ) × (r : ℕ) × (w.latest + 1 ≤ w.earliest + 2 ^ e) × (e + r ≤ t) × Sized ws r
