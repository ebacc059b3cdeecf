-- The tests and the charge of the rules with capacities and due periods.
use Rattle.std.specs.Prelude.{ℕ, ◌+◌, ◌-◌, Bool, true, false, ◌&&◌, List, [], ◌∷◌, ◌==◌, nat_le}
use Rattle.windows.specs.Schedules.{count}

-- A rule that was filled with n batches and T periods fits k batches and P periods.
abbrev pub same_size : ℕ → ℕ → ℕ → ℕ → Bool
same_size n T k P = k == n && P == T

-- No period holds more batches than its capacity; the capacities stand for the periods from t on.
abbrev pub within : List ℕ → ℕ → List ℕ → Bool
within [] t x = true
within (c ∷ cs) t x = nat_le (count t x) c && within cs (t + 1) x

-- No batch comes after its due period.
abbrev pub on_time : List ℕ → List ℕ → Bool
on_time [] [] = true
on_time [] (v ∷ x) = false
on_time (d ∷ ds) [] = false
on_time (d ∷ ds) (v ∷ x) = nat_le v d && on_time ds x

-- The periods that the batches wait before they are due, added up.
abbrev pub waited : List ℕ → List ℕ → ℕ
waited [] x = 0
waited (d ∷ ds) [] = 0
waited (d ∷ ds) (v ∷ x) = (d - v) + waited ds x
