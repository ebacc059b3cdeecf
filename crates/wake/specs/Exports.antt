-- What the functions for other languages answer, and what they leave in the caller's memory.
use Rattle.std.specs.Prelude.{◌≡◌, ℕ, ◌*◌, Bool, cond, not, ◌&&◌, ◌||◌, List, [], ◌∷◌, length, map, Some, None, Ok, Err, Option, Result, ◌==◌, nat_lt}
use Rattle.windows.specs.declared.refusal.Refusal.{Refusal}
use Rattle.windows.specs.declared.window.Window.{Window}
use Rattle.windows.specs.declared.windows.Windows.{Windows}
use Rattle.windows.specs.Refusals.{number, struck}
use Rattle.windows.specs.WindowSets.{WindowSet}
use Rattle.windows.specs.Filling.{set_of, paired, some_bad}
use Rattle.windows.specs.Sizes.{out_of_size}
use Rattle.windows.specs.Halves.{first_periods, over}
use Rattle.rule.specs.Meaning.{Meaning, max_charge}
use Rattle.rule.specs.Narrowing.{none}
use Rattle.rule.specs.Tables.{outside}
use Rattle.flat.specs.Rules.{flat}
use Rattle.rated.specs.Rates.{rated}
use Rattle.rated.specs.Loading.{max_rate}
use Rattle.sheet.specs.Layout.{pairs}

-- A text in memory and its length for an answer; 0 and the memory as before if it is shorter.
pub record Listed (text before after : List ℕ) (r : ℕ) : Type 0 where
  pub answer : r ≡ cond (nat_lt (length before) (length text)) 0 (length text)
  pub memory : after ≡ cond (nat_lt (length before) (length text)) before (over text before)

-- The windows that two tables give, and the tables that give some windows.
abbrev pub windows_given : ℕ → List ℕ → List ℕ → WindowSet
windows_given T es ls = record { periods = T; each = paired es ls }

abbrev pub last_periods : List Window → List ℕ
last_periods ws = map (λ w. w.latest) ws

abbrev pub windows_left : Option WindowSet → List Window
windows_left None = []
windows_left (Some w) = w.each

-- n and T, and the lengths of both tables.
abbrev pub size_checks : ℕ → ℕ → List ℕ → List ℕ → List (ℕ × Bool)
size_checks n T es ls = (3, out_of_size n T) ∷ ((4, not (length es == n && length ls == n)) ∷ [])

-- The windows; the cap; and whether the cut is none.
abbrev pub window_checks : Meaning → ℕ → List ℕ → List ℕ → ℕ → List (ℕ × Bool)
window_checks m T es ls limit = (6, some_bad T es ls) ∷ ((8, nat_lt max_charge limit) ∷ ((9, none (m.cut (windows_given T es ls) limit)) ∷ []))

-- Before them n and T, the lengths of the tables, and their entries.
abbrev pub table_checks : ℕ → ℕ → Bool → Bool → Meaning → List ℕ → List ℕ → ℕ → List (ℕ × Bool)
table_checks n T lengths entries m es ls limit =
    (3, out_of_size n T) ∷
    ((4, not lengths) ∷
    ((5, entries) ∷ window_checks m T es ls limit))

-- Under Flat: a capacity for each period, and for each batch a due period and both ends of its window.
abbrev pub flat_table_checks : ℕ → ℕ → List ℕ → List ℕ → List ℕ → List ℕ → ℕ → List (ℕ × Bool)
flat_table_checks n T cs ds es ls limit =
    table_checks n T ((length es == n && length ls == n) && (length cs == T && length ds == n)) (outside 0 32 cs || outside 1 T ds) (flat n T cs ds) es ls limit

-- Under Rated: a rate for each batch too, two bytes each, the higher first.
abbrev pub rated_table_checks : ℕ → ℕ → List ℕ → List ℕ → List ℕ → List ℕ → List ℕ → ℕ → List (ℕ × Bool)
rated_table_checks n T cs ds bytes es ls limit =
    table_checks n T (((length es == n && length ls == n) && length bytes == 2 * n) && (length cs == T && length ds == n))
    (outside 0 32 cs || (outside 1 T ds || outside 0 max_rate (pairs n bytes))) (rated n T cs ds (pairs n bytes)) es ls limit

-- The tables es and ls of some windows after a narrowing, with the number of its refusal: they hold the cut, or stay.
pub record TablesNarrowed (m : Meaning) (T limit : ℕ) (checks : List (ℕ × Bool)) (es ls es' ls' : List ℕ) (r : ℕ) : Type 0 where
  pub refusal : r ≡ struck checks
  pub earliest : es' ≡ cond (struck checks == 0) (first_periods (windows_left (m.cut (windows_given T es ls) limit))) es
  pub latest : ls' ≡ cond (struck checks == 0) (last_periods (windows_left (m.cut (windows_given T es ls) limit))) ls

-- The same by the answer of a call.
abbrev pub TablesAnswered : Meaning → ℕ → ℕ → List (ℕ × Bool) → List ℕ → List ℕ → List ℕ → List ℕ → Result (Unit {0}) Refusal → Type 0
TablesAnswered m T limit checks es ls es' ls' (Ok u) =
    (struck checks ≡ 0) × (es' ≡ first_periods (windows_left (m.cut (windows_given T es ls) limit))) × (ls' ≡ last_periods (windows_left (m.cut (windows_given T es ls) limit)))
TablesAnswered m T limit checks es ls es' ls' (Err e) = (struck checks ≡ number e) × (es' ≡ es) × (ls' ≡ ls)

-- The windows of two tables after a narrowing: the cut, as many as were given, or the refusal.
abbrev pub WindowsNarrowed : Meaning → ℕ → List ℕ → List ℕ → ℕ → List (ℕ × Bool) → Result Windows Refusal → Type 0
WindowsNarrowed m T es ls limit checks (Ok w) = (struck checks ≡ 0) × (m.cut (windows_given T es ls) limit ≡ Some (set_of w)) × (length (set_of w).each ≡ length es)
WindowsNarrowed m T es ls limit checks (Err e) = struck checks ≡ number e
