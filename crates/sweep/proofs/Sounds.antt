-- What the ghost fields of batches give.
use Rattle.std.proofs.Common.{◌≡◌, ℕ, ◌<◌, ◌≤◌, List, length, take, All, arith}
use Rattle.std.proofs.lemmas.List.{length-take-le, get_or-take}
use Rattle.std.proofs.lemmas.List.Elements.{All-from_get_or}
use Rattle.line.specs.declared.batch.Batch.{Batch}
use Rattle.sweep.specs.declared.batches.Batches.{Batches}
use Rattle.sweep.specs.Charges.{no_batch, at, IsSound, Sound}
use Rattle.sweep.specs.Held.{listed, last_of}

-- as many batches are listed as it counts
pub length_listed : (b : Batches) → length (listed b) ≡ b.count
length_listed b = length-take-le b.count b.each (omega (arith, b.long, b.sound.few))

pub at_listed : (b : Batches) (k : ℕ) → k < b.count → at (listed b) k ≡ at b.each k
at_listed b k h = get_or-take b.count b.each k no_batch h

-- each batch of a sound table is sound
pub all_sound : (n last : ℕ) (bs : List Batch) → n ≤ length bs → Sound n last bs → All (IsSound last) (take n bs)
all_sound n last bs long sound =
    All-from_get_or (IsSound last) (take n bs) no_batch (λ k h.
    let below : k < n = omega (arith, length-take-le n bs long) in
    rw (get_or-take n bs k no_batch below) (sound.starts k below, sound.holds k below, sound.ends k below, sound.timely k below))

-- the batches that it lists are sound
pub listed_sound : (b : Batches) → Sound (length (listed b)) (last_of b) (listed b)
listed_sound b =
    let size = length_listed b in
    let each : (P : Batch → Type 0) → ((k : ℕ) → k < b.count → P (at b.each k)) → (k : ℕ) → k < length (listed b) → P (at (listed b) k) = λ P holds k h.
    let inside : k < b.count = omega arith in
    rw (at_listed b k inside) (holds k inside) in
    record {
      few = omega (arith, b.sound.few);
      most = b.sound.most;
      starts = each (λ v. 1 ≤ v.earliest) b.sound.starts;
      holds = each (λ v. v.earliest ≤ v.latest) b.sound.holds;
      ends = each (λ v. v.latest ≤ b.last) b.sound.ends;
      timely = each (λ v. v.latest ≤ v.due) b.sound.timely;
    }
