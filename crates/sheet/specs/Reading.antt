-- What reading a sheet answers.
use Rattle.std.specs.Prelude.{◌≡◌, ℕ, ◌+◌, ◌*◌, ◌≤◌, true, false, List, length, Ok, Err, Result}
use Rattle.windows.specs.declared.refusal.Refusal.{Refusal}
use Rattle.windows.specs.Refusals.{number, struck}
use Rattle.windows.specs.declared.windows.Windows.{Windows}
use Rattle.windows.specs.Filling.{set_of}
use Rattle.rule.specs.Meaning.{Meaning, max_charge}
use Rattle.rated.specs.declared.rated.Rated.{Rated}
use Rattle.rated.specs.Loading.{rated_of}
use Rattle.reload.specs.declared.reload.Reload.{Reload}
use Rattle.reload.specs.Loading.{reload_of}
use Rattle.layers.specs.Layers.{pair, weighted}
use Rattle.sheet.specs.declared.head.Head.{Head}
use Rattle.sheet.specs.declared.frame.tables.Field.{Field}
use Rattle.sheet.specs.declared.frame.tables.Field.TheVariants.{Earliest, Latest, Due, Kind}
use Rattle.sheet.specs.declared.section.Section.{Section}
use Rattle.sheet.specs.declared.section.Section.TheVariants.{Capacities, Charges, Batches}
use Rattle.sheet.specs.declared.section.Sheet.{Sheet}
use Rattle.sheet.specs.declared.job.Job.{Job}
use Rattle.sheet.specs.Layout.{batch_count, period_count, weight_told, kind_count, cap_told, capacities_at, charges_at, batches_at, capacity_bytes, charge_bytes, batch_bytes, sheet_windows, sheet_rated, sheet_reload, sheet_rule}
use Rattle.sheet.specs.Checks.{bad_rated, bad_reload, bad_windows, section_checks, sheet_refusal}

-- The counts and the cap of a sheet.
pub record HeadIs (b : List ℕ) (h : Head) : Type 0 where
  pub batches : h.batches ≡ batch_count b
  pub periods : h.periods ≡ period_count b
  pub weight : h.weight ≡ weight_told b
  pub kinds : h.kinds ≡ kind_count b
  pub limit : h.limit ≡ cap_told b

-- The place of a byte in the six of its batch.
abbrev pub place_of : Field → ℕ
place_of Earliest = 0
place_of Latest = 1
place_of Due = 2
place_of Kind = 3

-- A section by its case: capacities are 1, charges 2, batches 3; where it begins in the sheet; and the bytes that it borrows.
abbrev pub section_of : Section → ℕ × ℕ × List ℕ
section_of (Capacities place bytes) = (1, place, bytes.now)
section_of (Charges place bytes) = (2, place, bytes.now)
section_of (Batches place bytes) = (3, place, bytes.now)

-- The head and the three sections of a sheet.
pub record SheetIs (b : List ℕ) (s : Sheet) : Type 0 where
  pub head : HeadIs b s.head
  pub capacities : section_of s.capacities ≡ (1, capacities_at, capacity_bytes b)
  pub charges : section_of s.charges ≡ (2, charges_at b, charge_bytes b)
  pub batches : section_of s.batches ≡ (3, batches_at b, batch_bytes b)

-- A sheet is handed out in its parts, or refused by the first check that strikes.
abbrev pub SheetRead : List ℕ → Result Sheet Refusal → Type 0
SheetRead b (Ok s) = (sheet_refusal b ≡ 0) × SheetIs b s
SheetRead b (Err e) = sheet_refusal b ≡ number e

-- What the checks of the head leave true.
pub record Framed (b : List ℕ) (h : Head) : Type 0 where
  pub head : HeadIs b h
  pub few : h.batches ≤ 32
  pub some : 1 ≤ h.periods
  pub most : h.periods ≤ 64
  pub kinds_some : 1 ≤ h.kinds
  pub kinds_most : h.kinds ≤ 8
  pub weight_some : 1 ≤ h.weight
  pub weight_most : h.weight ≤ 100
  pub low : h.limit ≤ max_charge
  pub whole : length b ≡ 15 + h.periods + 2 * (h.kinds * h.kinds) + 6 * h.batches

-- The meaning of the code's rule.
abbrev pub rule_of : Job → Meaning
rule_of j = pair (weighted j.rule.left.weight.value (rated_of j.rule.left.rule)) (reload_of j.rule.right)

-- The windows, the rule and the cap of a sheet.
pub record JobIs (b : List ℕ) (j : Job) : Type 0 where
  pub windows : set_of j.windows ≡ sheet_windows b
  pub rule : rule_of j ≡ sheet_rule b
  pub limit : j.limit ≡ cap_told b

-- A sheet is loaded, or refused by the first check that strikes.
abbrev pub LoadedSheet : List ℕ → Result Job Refusal → Type 0
LoadedSheet b (Ok j) = (sheet_refusal b ≡ 0) × JobIs b j
LoadedSheet b (Err e) = sheet_refusal b ≡ number e

-- Once the head has passed its checks, the same of the parts: each refuses by its own check of the sections.
abbrev pub RatedRead : List ℕ → Result Rated Refusal → Type 0
RatedRead b (Ok r) = (bad_rated b ≡ false) × (rated_of r ≡ sheet_rated b)
RatedRead b (Err e) = (bad_rated b ≡ true) × (number e ≡ 5)

abbrev pub ReloadRead : List ℕ → Result Reload Refusal → Type 0
ReloadRead b (Ok r) = (bad_reload b ≡ false) × (reload_of r ≡ sheet_reload b)
ReloadRead b (Err e) = (bad_reload b ≡ true) × (number e ≡ 5)

abbrev pub WindowsRead : List ℕ → Result Windows Refusal → Type 0
WindowsRead b (Ok w) = (bad_windows b ≡ false) × (set_of w ≡ sheet_windows b)
WindowsRead b (Err e) = (bad_windows b ≡ true) × (number e ≡ 6)

abbrev pub LoadedSections : List ℕ → Result Job Refusal → Type 0
LoadedSections b (Ok j) = (struck (section_checks b) ≡ 0) × JobIs b j
LoadedSections b (Err e) = struck (section_checks b) ≡ number e
