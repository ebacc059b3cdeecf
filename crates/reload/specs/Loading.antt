-- What Reload was filled with, and the checks of its fill call.
use Rattle.std.specs.List.{list_any}
use Rattle.std.specs.Prelude.{ℕ, ◌*◌, Bool, not, ◌&&◌, ◌||◌, List, [], ◌∷◌, length, take, ◌==◌, nat_lt}
use Rattle.windows.specs.Sizes.{out_of_size}
use Rattle.rule.specs.Meaning.{Meaning}
use Rattle.rule.specs.Tables.{outside}
use Rattle.reload.specs.declared.reload.Reload.{Reload}
use Rattle.reload.specs.Loads.{out_of_kinds, some_own_charge}
use Rattle.reload.specs.Rules.{reload}

-- The meaning of the code's rule.
abbrev pub reload_of : Reload → Meaning
reload_of r = reload r.extent.batches r.extent.periods r.kinds_count (take r.extent.batches r.kinds) (take (r.kinds_count * r.kinds_count) r.charges)

-- n, T and K, 1 to 8; then the lengths of the lists; then each kind, 1 to K, each charge, 0 to 10,000, and each q(a, a), 0.
abbrev pub reload_checks : ℕ → ℕ → ℕ → List ℕ → List ℕ → List (ℕ × Bool)
reload_checks n T K ks q =
    (3, out_of_size n T || out_of_kinds K) ∷
    ((4, not (length ks == n && length q == K * K)) ∷
    ((5, outside 1 K ks || (list_any (λ v. nat_lt 10000 v) q || some_own_charge K q)) ∷ []))
