-- Sets of windows, and the schedules that lie in them. Batches stand in a list by their order; k counts them from 0.
use Rattle.std.specs.Prelude.{◌≡◌, ℕ, ◌<◌, ◌≤◌, List, length, slice_index, slice_index_or}
use Rattle.windows.specs.declared.window.Window.{Window}

abbrev pub window : ℕ → ℕ → Window
window a b = record { earliest = a; latest = b }

-- What is read past the end of a list of windows.
abbrev pub nowhere : Window
nowhere = window 0 0

-- The ends of the window at k.
abbrev pub earliest_of : List Window → ℕ → ℕ
earliest_of ws k = (slice_index_or ws k nowhere).earliest

abbrev pub latest_of : List Window → ℕ → ℕ
latest_of ws k = (slice_index_or ws k nowhere).latest

-- A number of periods, T, and a window for each of n batches. A schedule is a list of n periods.
pub record WindowSet : Type 0 where
  pub periods : ℕ
  pub each : List Window

-- A schedule lies in windows if each batch's period is in its window.
pub record Lies (x : List ℕ) (ws : List Window) : Type 0 where
  pub same_size : length x ≡ length ws
  pub not_before : (k : ℕ) → k < length ws → earliest_of ws k ≤ slice_index x k
  pub not_after : (k : ℕ) → k < length ws → slice_index x k ≤ latest_of ws k

-- Windows vs lie inside windows ws.
pub record Inside (vs ws : List Window) : Type 0 where
  pub same_size : length vs ≡ length ws
  pub not_before : (k : ℕ) → k < length ws → earliest_of ws k ≤ earliest_of vs k
  pub not_after : (k : ℕ) → k < length ws → latest_of vs k ≤ latest_of ws k

-- Every window is one period, that of the schedule x.
pub record Single (ws : List Window) (x : List ℕ) : Type 0 where
  pub same_size : length x ≡ length ws
  pub starts : (k : ℕ) → k < length ws → earliest_of ws k ≡ slice_index x k
  pub ends : (k : ℕ) → k < length ws → latest_of ws k ≡ slice_index x k

-- Up to 32 batches and 1 to 64 periods; no window is empty, and all lie in 1 to T.
pub record Proper (s : WindowSet) : Type 0 where
  pub some : 1 ≤ s.periods
  pub most : s.periods ≤ 64
  pub few : length s.each ≤ 32
  pub starts : (k : ℕ) → k < length s.each → 1 ≤ earliest_of s.each k
  pub holds : (k : ℕ) → k < length s.each → earliest_of s.each k ≤ latest_of s.each k
  pub ends : (k : ℕ) → k < length s.each → latest_of s.each k ≤ s.periods
