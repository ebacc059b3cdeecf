-- Kinds of load, numbered 1 to K: the order in which a schedule brings them, and the charge from each to the next. ks has the
-- kind of each batch, and q the charges, row by row: K rows of K entries, one row for each kind that goes before.
use Rattle.std.specs.Prelude.{ℕ, ◌+◌, ◌-◌, ◌*◌, Bool, cond, not, ◌||◌, List, [], ◌∷◌, Some, None, Option, ◌==◌, nat_lt, slice_index}
use Rattle.std.specs.List.{range_with_len, list_any}
use Rattle.windows.specs.Schedules.{joined}

-- The kinds of the batches in period t.
abbrev pub kinds_at : ℕ → List ℕ → List ℕ → List ℕ
kinds_at t [] x = []
kinds_at t (k ∷ ks) [] = []
kinds_at t (k ∷ ks) (v ∷ x) = cond (v == t) (k ∷ kinds_at t ks x) (kinds_at t ks x)

-- The kinds in order of period, from period 1 to P; an idle period brings none.
abbrev pub in_order : ℕ → List ℕ → List ℕ → List ℕ
in_order P ks x = joined (λ t. kinds_at t ks x) (range_with_len 1 P)

-- q(a, b), the charge from kind a to kind b.
abbrev pub reload_charge : ℕ → List ℕ → ℕ → ℕ → ℕ
reload_charge K q a b = slice_index q ((a - 1) * K + (b - 1))

-- What kind b draws after the kind before it; the first draws nothing.
abbrev pub drawn : ℕ → List ℕ → Option ℕ → ℕ → ℕ
drawn K q None b = 0
drawn K q (Some a) b = reload_charge K q a b

-- What some kinds draw, one after the other.
abbrev pub reloads : ℕ → List ℕ → Option ℕ → List ℕ → ℕ
reloads K q before [] = 0
reloads K q before (b ∷ ks) = drawn K q before b + reloads K q (Some b) ks

-- The charge of a schedule over P periods.
abbrev pub reloads_of : ℕ → List ℕ → List ℕ → ℕ → List ℕ → ℕ
reloads_of K ks q P x = reloads K q None (in_order P ks x)

-- The limits of K.
abbrev pub out_of_kinds : ℕ → Bool
out_of_kinds K = nat_lt K 1 || nat_lt 8 K

-- Some q(a, a) is not 0.
abbrev pub some_own_charge : ℕ → List ℕ → Bool
some_own_charge K q = list_any (λ a. not (reload_charge K q a a == 0)) (range_with_len 1 K)
