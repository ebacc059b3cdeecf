-- Ends that are found by taking in one good schedule after the other.
use Rattle.std.proofs.Common.{◌≡◌, ℕ, ◌<◌, ◌≤◌, List, length, get_or, Some, None, Option, MatchOption, ap, ⊎_elim, arith}
use Rattle.std.specs.Coded.{le_prop}
use Rattle.std.proofs.Math.Logic.{∥∥₁_elim, ∥∥₁_map}
use Rattle.std.proofs.lemmas.List.{get_or-take, length-take-le}
use Rattle.std.proofs.lemmas.Bool.{cases_lt}
use Rattle.sweep.specs.Held.{listed, last_of}
use Rattle.flat.specs.declared.ends.Ends.{Ends}
use Rattle.flat.specs.declared.ends.sought.Sought.{Sought}
use Rattle.flat.specs.Ends.{Good, placed_in, Earliest, Latest, Taken, Supported, Reached}
use Rattle.flat.proofs.Outermost.{ends_at}

module _ (s : Sought) where
  few : length (listed s.batches) ≤ 32
  few = omega (arith, length-take-le s.batches.count s.batches.each (omega (arith, s.batches.long, s.batches.sound.few)), s.batches.sound.few)

  taken_supported : (d e : Ends) (p : List ℕ) → Taken d p e → Good s (placed_in s p) → Supported s d → Supported s e
  taken_supported d e p t good ok =
      record {
        first = λ k h. ⊎_elim
            (λ l. (placed_in s p, good, omega (arith, few, get_or-take (length (listed s.batches)) p k 0 h, t.first k)))
            (λ l. (let o = ok.first k h in (o.0, o.1, omega (arith, few, o.2, t.first k))))
            (cases_lt (get_or p k 0) (get_or d.earliest k 0));
        final = λ k h. ⊎_elim
            (λ l. (placed_in s p, good, omega (arith, few, get_or-take (length (listed s.batches)) p k 0 h, t.final k)))
            (λ l. (let o = ok.final k h in (o.0, o.1, omega (arith, few, o.2, t.final k))))
            (cases_lt (get_or d.latest k 0) (get_or p k 0));
      }

  pub still_supported : (d e : Ends) (p : List ℕ) → Taken d p e → Good s (placed_in s p) → ∥ Supported s d ∥₁ → ∥ Supported s e ∥₁
  still_supported d e p t good ok = ∥∥₁_map ok (taken_supported d e p t good)

  pub ends_inside : (e : Ends) (k : ℕ) → k < length (listed s.batches) → ∥ Supported s e ∥₁ → get_or e.latest k 0 ≤ last_of s.batches
  ends_inside e k h ok = ∥∥₁_elim ok le_prop (λ o. (let x = o.final k h in omega (arith, x.2, ends_at s k h x.0 x.1)))

  -- What one schedule that may be there leaves of the ends of batch i, which is as early, or as late, in it as in any.
  module _ (d e : Ends) (i : ℕ) (one : i < length (listed s.batches)) where
    pub held_earliest : (r : Option (List ℕ)) → MatchOption r ((x : List ℕ) → Good s x → get_or d.earliest i 0 ≤ get_or x i 0) (λ p. Earliest s i (placed_in s p)) → MatchOption r (e ≡ d) (λ p. Taken d p e) → (x : List ℕ) → Good s x → get_or e.earliest i 0 ≤ get_or x i 0
    held_earliest None o held x good = omega (arith, ap (λ f. get_or f.earliest i 0) held, o x good)
    held_earliest (Some p) o held x good = omega (arith, few, get_or-take (length (listed s.batches)) p i 0 one, held.first i, o.first x good)

    pub held_latest : (r : Option (List ℕ)) → MatchOption r ((x : List ℕ) → Good s x → get_or x i 0 ≤ get_or d.latest i 0) (λ p. Latest s i (placed_in s p)) → MatchOption r (e ≡ d) (λ p. Taken d p e) → ((x : List ℕ) → Good s x → get_or d.earliest i 0 ≤ get_or x i 0) → Reached s e i
    held_latest None o held low x good = (omega (arith, ap (λ f. get_or f.earliest i 0) held, low x good), omega (arith, ap (λ f. get_or f.latest i 0) held, o x good))
    held_latest (Some p) o held low x good = (omega (arith, few, held.first i, low x good), omega (arith, few, get_or-take (length (listed s.batches)) p i 0 one, held.final i, o.final x good))
