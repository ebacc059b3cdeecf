-- The listing of a sheet: its text, and what is true of the sheet when the text says so.
use Rattle.std.specs.Prelude.{◌≡◌, ℕ, ◌*◌, ◌<◌, ◌≤◌, cond, List, ◌++◌, Some, None, ◌==◌}
use Rattle.runs.specs.Run.{Plan, State}
use Rattle.runs.specs.Law.{Standing, Contends, BestAtEnd, product}
use Rattle.sheet.specs.Layout.{period_count, cap_told, sheet_windows, sheet_rule}
use Rattle.sheet.specs.Checks.{sheet_refusal}
use Rattle.report.specs.Texts.{plan_text, none_text, stopped_line, refused_text, state_text, Small}
use Rattle.listing.specs.Running.{searched}

-- The greatest number of steps.
abbrev pub max_steps : ℕ
max_steps = 1000000

-- The windows of a sheet and its cap, for which its contenders contend.
abbrev pub sheet_standing : List ℕ → Standing
sheet_standing b = record { windows = sheet_windows b; cap = cap_told b }

-- What the search of a sheet comes to.
abbrev pub sheet_state : List ℕ → State
sheet_state b = searched (sheet_rule b) (sheet_windows b) (cap_told b) max_steps

-- The text: the refusal of the sheet, or what its search comes to.
abbrev pub listing_text : List ℕ → List ℕ
listing_text b = cond (sheet_refusal b == 0) (state_text (sheet_state b)) (refused_text (sheet_refusal b))

-- The charge that a plan tells is that of its schedule under the sheet's rule.
abbrev pub Charged : List ℕ → Plan → Type 0
Charged b p = p.charge ≡ (sheet_rule b).charge (period_count b) p.schedule

-- What a text says of the sheet is true.
pub record Truthful (b text : List ℕ) : Type 0 where
  -- `plan` without `stopped`: the plan is better than every other contender, and its charge is right
  pub best : (p : Plan) → Small p → text ≡ plan_text p → (sheet_refusal b ≡ 0) × BestAtEnd (sheet_rule b) (Some (sheet_standing b)) (Some p) × Charged b p
  -- `none`: there is no contender
  pub none : text ≡ none_text → (sheet_refusal b ≡ 0) × BestAtEnd (sheet_rule b) (Some (sheet_standing b)) None
  -- `stopped`: the sheet is accepted, and a million steps are fewer than twice the product of its window lengths
  pub stopped : (rest : List ℕ) → text ≡ stopped_line ++ rest → (sheet_refusal b ≡ 0) × (max_steps < 2 * product (sheet_windows b).each)
  -- and a plan that follows is a contender, with its right charge
  pub held : (p : Plan) → Small p → text ≡ stopped_line ++ plan_text p → Contends (sheet_rule b) (sheet_standing b) p.schedule × Charged b p
  -- `refused`: the sheet is refused by that number
  pub refused : (k : ℕ) → k ≤ 14 → text ≡ refused_text k → sheet_refusal b ≡ k

-- A text is the listing, and true.
pub record Told (b text : List ℕ) : Type 0 where
  pub is : text ≡ listing_text b
  pub truthful : Truthful b (listing_text b)
