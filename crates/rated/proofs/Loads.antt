-- Fill calls where no check strikes.
use Rattle.std.proofs.Common.{◌≡◌, ℕ, ◌≤◌, Bool, false, List, ◌++◌, length, get_or, take, replicate, Ok, Err, Result, ap, ◌∙◌, arith}
use Rattle.std.proofs.lemmas.List.{length-take-le}
use Rattle.std.proofs.lemmas.Bool.Decides.{nat_tests}
use Rattle.windows.specs.declared.refusal.Refusal.{Refusal}
use Rattle.windows.specs.Refusals.{struck}
use Rattle.windows.specs.Sizes.{out_of_size}
use Rattle.windows.proofs.Held.{numbered}
use Rattle.rule.specs.Meaning.{Meaning}
use Rattle.rule.specs.Narrowing.{Loaded}
use Rattle.rule.specs.Tables.{outside}
use Rattle.rule.proofs.Entries.{padded_front, padded_most, each_inside}
use Rattle.flat.specs.declared.flat.Flat.{Flat}
use Rattle.flat.specs.Rules.{flat}
use Rattle.flat.specs.Loading.{flat_of, flat_checks}
use Rattle.rated.specs.declared.rated.Rated.{Rated}
use Rattle.rated.specs.Loading.{max_rate, rated_checks}

-- What an accepted fill was asked.
pub record Accepted (n T : ℕ) (cs ds rs : List ℕ) : Type 0 where
  pub few : n ≤ 32
  pub some : 1 ≤ T
  pub most : T ≤ 64
  pub rooms : length cs ≡ T
  pub dated : length ds ≡ n
  pub rated : length rs ≡ n
  pub roomy : outside 0 32 cs ≡ false
  pub timely : outside 1 T ds ≡ false
  pub cheap : outside 0 max_rate rs ≡ false

pub accepted : (n T : ℕ) (cs ds rs : List ℕ) → 0 ≡ struck (rated_checks n T cs ds rs) → Accepted n T cs ds rs
accepted n T cs ds rs e =
    record {
      few = grind (arith, nat_tests);
      some = grind (arith, nat_tests);
      most = grind (arith, nat_tests);
      rooms = grind (arith, nat_tests);
      dated = grind (arith, nat_tests);
      rated = grind (arith, nat_tests);
      roomy = grind (arith, nat_tests);
      timely = grind (arith, nat_tests);
      cheap = grind (arith, nat_tests);
    }

flat_accepted : (n T : ℕ) (cs ds : List ℕ) → out_of_size n T ≡ false → length cs ≡ T → length ds ≡ n → outside 0 32 cs ≡ false → outside 1 T ds ≡ false → struck (flat_checks n T cs ds) ≡ 0
flat_accepted n T cs ds s l m e f = grind (arith, nat_tests)

-- Tables that begin with its lists.
pub record Tables (n T : ℕ) (cs ds rs a b d : List ℕ) : Type 0 where
  pub capacities : take T a ≡ cs
  pub dues : take n b ≡ ds
  pub rates : take n d ≡ rs
  pub cheap : (k : ℕ) → get_or d k 0 ≤ 1000000

pub tables : (n T : ℕ) (cs ds rs a b d : List ℕ) → Accepted n T cs ds rs → a ≡ take 64 (cs ++ replicate 64 0) → b ≡ take 32 (ds ++ replicate 32 0) → d ≡ take 32 (rs ++ replicate 32 0) → Tables n T cs ds rs a b d
tables n T cs ds rs a b d ok p q u =
    record {
      capacities = ap (take T) p ∙ padded_front 64 T cs ok.rooms ok.most;
      dues = ap (take n) q ∙ padded_front 32 n ds ok.dated ok.few;
      rates = ap (take n) u ∙ padded_front 32 n rs ok.rated ok.few;
      cheap = λ k. rw u (padded_most 32 1000000 rs (λ j h. omega (arith, (each_inside 0 max_rate rs ok.cheap j h).1)) k);
    }

loaded : (checks : List (ℕ × Bool)) (wanted : Meaning) (before after : Flat) (r : Result (Unit {0}) Refusal) → struck checks ≡ 0 → Loaded flat_of checks wanted before after r → flat_of after ≡ wanted
loaded checks wanted before after (Ok u) z h = h.1
loaded checks wanted before after (Err e) z h = absurd (omega (arith, h.0, numbered e))

-- A Flat that was filled with the tables of a Rated.
pub unrated_is : (r : Rated) (before after : Flat) (o : Result (Unit {0}) Refusal) →
    Loaded flat_of (flat_checks r.extent.batches r.extent.periods (take r.extent.periods r.capacities) (take r.extent.batches r.dues)) (flat r.extent.batches r.extent.periods (take r.extent.periods r.capacities) (take r.extent.batches r.dues)) before after o →
    flat_of after ≡ flat r.extent.batches r.extent.periods (take r.extent.periods r.capacities) (take r.extent.batches r.dues)
unrated_is r before after o h =
    let n = r.extent.batches in
    let T = r.extent.periods in
    let few = r.extent.few in
    let some = r.extent.some in
    let most = r.extent.most in
    let size : out_of_size n T ≡ false = grind (arith, nat_tests) in
    let a = length-take-le T r.capacities (omega (arith, r.long)) in
    let b = length-take-le n r.dues (omega (arith, r.dated)) in
    loaded (flat_checks n T (take T r.capacities) (take n r.dues)) (flat n T (take T r.capacities) (take n r.dues)) before after o (flat_accepted n T (take T r.capacities) (take n r.dues) size a b r.roomy r.timely) h
