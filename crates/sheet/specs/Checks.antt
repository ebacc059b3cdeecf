-- Why a sheet is refused: the first check that strikes gives its number.
use Rattle.std.specs.List.{list_any}
use Rattle.std.specs.Prelude.{ℕ, ◌+◌, ◌*◌, Bool, not, ◌||◌, List, [], ◌∷◌, ◌++◌, length, ◌==◌, nat_lt}
use Rattle.windows.specs.Refusals.{struck}
use Rattle.windows.specs.Filling.{some_bad}
use Rattle.windows.specs.Sizes.{out_of_size}
use Rattle.rule.specs.Meaning.{max_charge}
use Rattle.rule.specs.Tables.{outside}
use Rattle.rated.specs.Loading.{max_rate}
use Rattle.reload.specs.Loads.{out_of_kinds, some_own_charge}
use Rattle.sheet.specs.Layout.{length_told, version, batch_count, period_count, weight_told, kind_count, cap_told, capacity_bytes, reload_charges, earliest_periods, latest_periods, due_periods, kinds, rates}

-- n, T, K, the weight, 1 to 100, or the cap breaks its limits.
abbrev pub over_limits : ℕ → ℕ → ℕ → ℕ → ℕ → Bool
over_limits n T K weight limit = out_of_size n T || (out_of_kinds K || ((nat_lt weight 1 || nat_lt 100 weight) || nat_lt max_charge limit))

-- The length of what follows, by the counts.
abbrev pub length_counted : ℕ → ℕ → ℕ → ℕ
length_counted n T K = 13 + T + 2 * (K * K) + 6 * n

-- The checks of the head: fewer than 15 bytes, or an L that miscounts what follows; the version; the limits; the counts.
abbrev pub head_checks : List ℕ → List (ℕ × Bool)
head_checks b =
    (1, nat_lt (length b) 15 || not (length_told b + 2 == length b)) ∷
    ((2, not (version b == 1)) ∷
    ((3, over_limits (batch_count b) (period_count b) (kind_count b) (weight_told b) (cap_told b)) ∷
    ((4, not (length_told b == length_counted (batch_count b) (period_count b) (kind_count b))) ∷ [])))

-- A capacity, due period or rate breaks its limits; or a kind or a charge does, or a charge from a kind to itself is not 0.
abbrev pub bad_rated : List ℕ → Bool
bad_rated b = outside 0 32 (capacity_bytes b) || (outside 1 (period_count b) (due_periods b) || outside 0 max_rate (rates b))

abbrev pub bad_reload : List ℕ → Bool
bad_reload b = outside 1 (kind_count b) (kinds b) || (list_any (λ v. nat_lt 10000 v) (reload_charges b) || some_own_charge (kind_count b) (reload_charges b))

-- A window is empty or leaves the periods.
abbrev pub bad_windows : List ℕ → Bool
bad_windows b = some_bad (period_count b) (earliest_periods b) (latest_periods b)

-- The checks of the sections: every entry of the sheet before any window.
abbrev pub section_checks : List ℕ → List (ℕ × Bool)
section_checks b =
    (5, bad_rated b || bad_reload b) ∷
    ((6, bad_windows b) ∷ [])

-- The number by which a sheet is refused; 0 where it is accepted.
abbrev pub sheet_refusal : List ℕ → ℕ
sheet_refusal b = struck (head_checks b ++ section_checks b)
