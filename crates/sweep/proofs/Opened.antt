-- Batches with their windows opened to period 1.
use Rattle.std.proofs.Common.{◌≡◌, ℕ, ◌<◌, ◌≤◌, List, length, take, sym, ◌∙◌, arith}
use Rattle.std.proofs.lemmas.List.{ext_get_or, get_or-map, get_or-take, length-map, length-take-le}
use Rattle.line.specs.declared.batch.Batch.{Batch}
use Rattle.sweep.specs.Charges.{no_batch, at, opened, relaxed, Sound}

opened_at : (bs : List Batch) (k : ℕ) → k < length bs → at (relaxed bs) k ≡ opened (at bs k)
opened_at bs k h = get_or-map opened bs k no_batch no_batch h

-- a table that begins with the batches opened
pub opened_front : (bs each : List Batch) → length bs ≤ length each → ((k : ℕ) → k < length bs → at each k ≡ opened (at bs k)) → take (length bs) each ≡ relaxed bs
opened_front bs each room is =
    let l = length-take-le (length bs) each room in
    ext_get_or no_batch (take (length bs) each) (relaxed bs) (l ∙ sym (length-map bs opened)) (λ k h.
    get_or-take (length bs) each k no_batch (omega arith) ∙ is k (omega arith) ∙ sym (opened_at bs k (omega arith)))

-- such a table is sound
pub opened_sound : (n last : ℕ) (bs each : List Batch) → ((k : ℕ) → k < n → at each k ≡ opened (at bs k)) → Sound n last bs → Sound n last each
opened_sound n last bs each is sound =
    let at_each : (P : Batch → Type 0) → ((k : ℕ) → k < n → P (opened (at bs k))) → (k : ℕ) → k < n → P (at each k) = λ P holds k h. rw (is k h) (holds k h) in
    record {
      few = sound.few;
      most = sound.most;
      starts = at_each (λ v. 1 ≤ v.earliest) (λ k h. omega arith);
      holds = at_each (λ v. v.earliest ≤ v.latest) (λ k h. omega (arith, sound.starts k h, sound.holds k h));
      ends = at_each (λ v. v.latest ≤ last) sound.ends;
      timely = at_each (λ v. v.latest ≤ v.due) sound.timely;
    }
