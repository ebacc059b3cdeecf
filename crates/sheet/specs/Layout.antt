-- Where everything stands in the bytes of a sheet, and what it says. Places count from 0. A number of several bytes has its
-- highest byte first.
--
--   place    bytes      what
--   0        2          L, the length of what follows these two bytes
--   2        1          version
--   3        1          n, the number of batches
--   4        1          T, the number of periods
--   5        1          weight
--   6        1          K, the number of kinds
--   7        8          cap
--   15       T          the capacity of each period, a byte each
--   15 + T   2 × K × K  the charge from each kind to each, two bytes each, the charges from kind 1 first
--   then     6 × n      six bytes a batch: earliest, latest, due, kind, and two bytes of rate
use Rattle.std.specs.Prelude.{ℕ, zero, suc, ◌+◌, ◌*◌, ◌^◌, List, map, take, drop, slice_index}
use Rattle.std.specs.List.{range_with_len}
use Rattle.windows.specs.WindowSets.{WindowSet}
use Rattle.windows.specs.Filling.{paired}
use Rattle.rule.specs.Meaning.{Meaning}
use Rattle.rated.specs.Rates.{rated}
use Rattle.reload.specs.Rules.{reload}
use Rattle.layers.specs.Layers.{pair, weighted}

-- The number of k bytes from a place on, the highest first.
abbrev pub word : ℕ → List ℕ → ℕ → ℕ
word zero xs at = 0
word (suc k) xs at = slice_index xs at * 256 ^ k + word k xs (at + 1)

-- The head.
abbrev pub length_told : List ℕ → ℕ
length_told b = word 2 b 0

abbrev pub version : List ℕ → ℕ
version b = slice_index b 2

abbrev pub batch_count : List ℕ → ℕ
batch_count b = slice_index b 3

abbrev pub period_count : List ℕ → ℕ
period_count b = slice_index b 4

abbrev pub weight_told : List ℕ → ℕ
weight_told b = slice_index b 5

abbrev pub kind_count : List ℕ → ℕ
kind_count b = slice_index b 6

abbrev pub cap_told : List ℕ → ℕ
cap_told b = word 8 b 7

-- Where the sections begin.
abbrev pub capacities_at : ℕ
capacities_at = 15

abbrev pub charges_at : List ℕ → ℕ
charges_at b = capacities_at + period_count b

abbrev pub batches_at : List ℕ → ℕ
batches_at b = charges_at b + 2 * (kind_count b * kind_count b)

-- The bytes of the sections.
abbrev pub capacity_bytes : List ℕ → List ℕ
capacity_bytes b = take (period_count b) (drop capacities_at b)

abbrev pub charge_bytes : List ℕ → List ℕ
charge_bytes b = take (2 * (kind_count b * kind_count b)) (drop (charges_at b) b)

abbrev pub batch_bytes : List ℕ → List ℕ
batch_bytes b = take (6 * batch_count b) (drop (batches_at b) b)

-- The k numbers of two bytes each in a section of charges.
abbrev pub pairs : ℕ → List ℕ → List ℕ
pairs k section = map (λ i. word 2 section (2 * i)) (range_with_len 0 k)

-- One byte of each of n batches in their section: that at a place from 0 to 3 in the six bytes.
abbrev pub column : ℕ → ℕ → List ℕ → List ℕ
column n field section = map (λ i. slice_index section (6 * i + field)) (range_with_len 0 n)

-- The rate of each of n batches.
abbrev pub rate_column : ℕ → List ℕ → List ℕ
rate_column n section = map (λ i. word 2 section (6 * i + 4)) (range_with_len 0 n)

-- What the sections say.
abbrev pub reload_charges : List ℕ → List ℕ
reload_charges b = pairs (kind_count b * kind_count b) (charge_bytes b)

abbrev pub earliest_periods : List ℕ → List ℕ
earliest_periods b = column (batch_count b) 0 (batch_bytes b)

abbrev pub latest_periods : List ℕ → List ℕ
latest_periods b = column (batch_count b) 1 (batch_bytes b)

abbrev pub due_periods : List ℕ → List ℕ
due_periods b = column (batch_count b) 2 (batch_bytes b)

abbrev pub kinds : List ℕ → List ℕ
kinds b = column (batch_count b) 3 (batch_bytes b)

abbrev pub rates : List ℕ → List ℕ
rates b = rate_column (batch_count b) (batch_bytes b)

-- The windows of the batches.
abbrev pub sheet_windows : List ℕ → WindowSet
sheet_windows b = record { periods = period_count b; each = paired (earliest_periods b) (latest_periods b) }

-- The rule: Rated with the weight, paired with Reload.
abbrev pub sheet_rated : List ℕ → Meaning
sheet_rated b = rated (batch_count b) (period_count b) (capacity_bytes b) (due_periods b) (rates b)

abbrev pub sheet_reload : List ℕ → Meaning
sheet_reload b = reload (batch_count b) (period_count b) (kind_count b) (kinds b) (reload_charges b)

abbrev pub sheet_rule : List ℕ → Meaning
sheet_rule b = pair (weighted (weight_told b) (sheet_rated b)) (sheet_reload b)
