-- What a filled Reload holds.
use Rattle.std.specs.Prelude.{ℕ, ◌*◌, ◌<◌, ◌≤◌, List, length, take, slice_index}
use Rattle.std.proofs.Common.{arith}
use Rattle.std.proofs.lemmas.List.{length-take, get_or-take}
use Rattle.reload.specs.declared.reload.Reload.{Reload}

module _ (r : Reload) where
  abbrev pub K : ℕ
  K = r.kinds_count

  abbrev pub q : List ℕ
  q = take (K * K) r.charges

  abbrev pub ks : List ℕ
  ks = take r.extent.batches r.kinds

  pub charges_low : (k : ℕ) → k < length q → slice_index q k ≤ 10000
  charges_low k h = omega (arith, get_or-take (K * K) r.charges k 0 (omega (arith, length-take (K * K) r.charges)), r.low k)
