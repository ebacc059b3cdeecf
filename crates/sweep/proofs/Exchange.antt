-- The exchange: for each feasible schedule there is one worth as much that agrees with what has been placed.
use Rattle.std.proofs.Common.{◌≡◌, ℕ, ◌+◌, ◌-◌, ◌<◌, ◌≤◌, ◌⊎◌, List, length, get_or, take, set, replicate, sym, refl, ap, ◌∙◌, subst, inl, inr, ⊎_elim, zero-add, arith, length-set, get_or-set_other, get_or-set_same}
use Rattle.std.proofs.lemmas.List.{get_or_past, get_or-take, length-take-le, ext_get_or, get_or-replicate, length-replicate}
use Rattle.std.proofs.lemmas.Bool.{cases_eq, cases_lt}
use Rattle.windows.specs.Schedules.{count}
use Rattle.sweep.specs.Feasible.{total, Feasible}
use Rattle.sweep.proofs.Counts.{hit, hit_is, hit_other, count_set, total_set, set_each, more_here, count_mono, count_take, count_none}

-- period v is what p has for batch k, or at most t where p has none, which is 0
abbrev pub Agrees : ℕ → List ℕ → ℕ → ℕ → Type 0
Agrees t p k v = (v ≡ get_or p k 0) ⊎ ((get_or p k 0 ≡ 0) × (v ≤ t))

abbrev pub Agree : ℕ → List ℕ → List ℕ → Type 0
Agree t p y = (k : ℕ) → Agrees t p k (get_or y k 0)

-- period t is done: it is full, or no batch waits for it
abbrev pub Over : ℕ → (ℕ → ℕ) → ℕ → ℕ → List ℕ → Type 0
Over n hi t room p = (room ≡ 0) ⊎ ((k : ℕ) → k < n → get_or p k 0 ≡ 0 → hi k < t)

-- b may go to t in the place of k, which then goes to where b was
abbrev pub Swaps : (ℕ → ℕ) → (ℕ → ℕ → ℕ) → ℕ → ℕ → ℕ → Type 0
Swaps lo f t b k = (u : ℕ) → lo b ≤ u → u < t → (lo k ≤ u) × (f b u + f k t ≤ f b t + f k u)

-- a feasible schedule worth as much as x that agrees with p
abbrev pub Better : (n last : ℕ) (lo hi cap : ℕ → ℕ) (f : ℕ → ℕ → ℕ) → ℕ → List ℕ → List ℕ → Type 0
Better n last lo hi cap f t p x = (y : List ℕ) × Feasible n last lo hi cap y × (total f 0 x ≤ total f 0 y) × Agree t p y

-- what holds of the placements p while period t has `room` left: the periods above t are done, and those below are empty
pub record Sweep (n last : ℕ) (lo hi cap : ℕ → ℕ) (f : ℕ → ℕ → ℕ) (t room : ℕ) (p : List ℕ) : Type 0 where
  pub top : t ≤ last
  pub long : n ≤ length p
  pub low : (k : ℕ) → k < n → get_or p k 0 ≡ 0 → lo k ≤ t
  pub placed : (k : ℕ) → k < n → 1 ≤ get_or p k 0 → (lo k ≤ get_or p k 0) × (get_or p k 0 ≤ hi k)
  pub free : (s : ℕ) → 1 ≤ s → s < t → count s p ≡ 0
  pub here : 1 ≤ t → count t p + room ≡ cap t
  pub fits : (s : ℕ) → t < s → s ≤ last → count s p ≤ cap s
  pub better : (x : List ℕ) → Feasible n last lo hi cap x → Better n last lo hi cap f t p x

module _ (n last : ℕ) (lo hi cap : ℕ → ℕ) (f : ℕ → ℕ → ℕ) where
  abbrev Ok : List ℕ → Type 0
  Ok = Feasible n last lo hi cap

  abbrev Within : ℕ → ℕ → Type 0
  Within k v = k < n → (lo k ≤ v) × (v ≤ hi k)

  -- the worth after a write
  worth_set : (y : List ℕ) (b t : ℕ) → b < length y → total f 0 (set y b t) + f b (get_or y b 0) ≡ total f 0 y + f b t
  worth_set y b t h = subst (λ a. total f 0 (set y b t) + f a (get_or y b 0) ≡ total f 0 y + f a t) (zero-add b) (total_set f 0 y b t h)

  -- a write of t for b leaves the others in agreement
  agree_other : (t b : ℕ) (p y : List ℕ) → Agree t p y → (k : ℕ) → (k ≡ b → ⊥) → Agrees t (set p b t) k (get_or y k 0)
  agree_other t b p y ag k ne = rw (get_or-set_other p b k t 0 ne) (ag k)

  -- y with b moved up to t, which has room
  move : (t b : ℕ) (p y : List ℕ) → Ok y → Agree t p y → b < n → b < length p → lo b ≤ t → t ≤ hi b → get_or y b 0 < t → f b (get_or y b 0) ≤ f b t → count t y < cap t → Better n last lo hi cap f t (set p b t) y
  move t b p y ok ag inn inp low high below rise space =
      let iny : b < length y = omega (arith, ok.size) in (
        set y b t,
        record {
          size = length-set y b t ∙ ok.size;
          within = set_each Within y b t iny (λ _. (low, high)) (λ k _ h. ok.within k h);
          fits = λ s pos top. ⊎_elim
              (λ e. omega (arith, count_set s y b t iny, hit_is s t (sym e), hit_other s (get_or y b 0) (λ z. omega arith), ap (λ a. count a y) e, ap cap e))
              (λ ne. omega (arith, count_set s y b t iny, hit_other s t (λ z. ne (sym z)), ok.fits s pos top))
              (cases_eq s t);
        },
        omega (arith, worth_set y b t iny),
        set_each (Agrees t (set p b t)) y b t iny (inl (sym (get_or-set_same p b t 0 inp))) (agree_other t b p y ag),
      )

  -- y with b and the batch k, which is at t, exchanged
  swap : (t b k : ℕ) (p y : List ℕ) → Ok y → Agree t p y → b < n → b < length p → k < n → lo b ≤ t → t ≤ hi b → get_or y b 0 < t → get_or p k 0 ≡ 0 → get_or y k 0 ≡ t → Swaps lo f t b k → Better n last lo hi cap f t (set p b t) y
  swap t b k p y ok ag inn inp kin low high below pk at swaps =
      let u = get_or y b 0 in
      let y₁ = set y b t in
      let iny : b < length y = omega (arith, ok.size) in
      let kny : k < length y₁ = omega (arith, ok.size, length-set y b t) in
      let apart : k ≡ b → ⊥ = λ e. omega (arith, ap (λ a. get_or y a 0) e) in
      let at₁ : get_or y₁ k 0 ≡ t = get_or-set_other y b k t 0 apart ∙ at in
      let gain = swaps u (ok.within b inn).0 below in (
        set y₁ k u,
        record {
          size = length-set y₁ k u ∙ length-set y b t ∙ ok.size;
          within = set_each Within y₁ k u kny (λ _. (gain.0, omega (arith, ok.within k kin)))
              (λ j _. set_each Within y b t iny (λ _. (low, high)) (λ j _ h. ok.within j h) j);
          fits = λ s pos top. omega (arith, count_set s y b t iny, count_set s y₁ k u kny, ap (hit s) at₁, ok.fits s pos top);
        },
        omega (arith, worth_set y b t iny, worth_set y₁ k u kny, gain.1, ap (f k) at₁),
        set_each (Agrees t (set p b t)) y₁ k u kny (inr (get_or-set_other p b k t 0 apart ∙ pk, omega arith))
            (λ j _. set_each (Agrees t (set p b t)) y b t iny (inl (sym (get_or-set_same p b t 0 inp))) (agree_other t b p y ag) j),
      )

  -- b, which none that waits is ahead of, is placed in t
  exchange : (t b : ℕ) (p y : List ℕ) → Ok y → Agree t p y → 1 ≤ t → b < n → b < length p → lo b ≤ t → t ≤ hi b → get_or p b 0 ≡ 0 → count t p < cap t →
      ((u : ℕ) → u ≤ t → f b u ≤ f b t) → ((k : ℕ) → k < n → get_or p k 0 ≡ 0 → t ≤ hi k → Swaps lo f t b k) → Better n last lo hi cap f t (set p b t) y
  exchange t b p y ok ag pos inn inp low high pb space rises swaps =
      let upto : get_or y b 0 ≤ t = ⊎_elim (λ e. omega arith) (λ h. h.1) (ag b) in
      ⊎_elim
      (λ e. (
        y,
        ok,
        omega arith,
        λ k. ⊎_elim
            (λ z. inl (subst (λ a. get_or y a 0 ≡ get_or (set p b t) a 0) (sym z) (e ∙ sym (get_or-set_same p b t 0 inp))))
            (agree_other t b p y ag k)
            (cases_eq k b),
      ))
      (λ ne. let below : get_or y b 0 < t = omega arith in ⊎_elim
      (move t b p y ok ag inn inp low high below (rises _ upto))
      (λ full.
      let r = more_here t pos p y (omega arith) in
      let k = r.0 in
      let kin : k < n = omega (arith, r.1, ok.size) in
      let pk : get_or p k 0 ≡ 0 = ⊎_elim (λ z. absurd (r.3 (sym z ∙ r.2))) (λ h. h.0) (ag k) in
      swap t b k p y ok ag inn inp kin low high below pk r.2 (swaps k kin pk (omega (arith, ok.within k kin, r.2))))
      (cases_lt (count t y) (cap t)))
      (cases_eq (get_or y b 0) t)

  -- where t is done, y has no batch at t that is not placed
  not_at : (t room : ℕ) (p : List ℕ) → Sweep n last lo hi cap f t room p → 1 ≤ t → Over n hi t room p → (y : List ℕ) → Ok y → Agree t p y → (k : ℕ) → get_or p k 0 ≡ 0 → get_or y k 0 ≡ t → ⊥
  not_at t room p s pos over y ok ag k pk e =
      let kin : k < n = ⊎_elim (λ l. l) (λ l. absurd (omega (arith, get_or_past y k 0 (omega (arith, ok.size))))) (cases_lt k n) in
      ⊎_elim
      (λ full.
      let iny : k < length y = omega (arith, ok.size) in
      let more = count_mono t pos p (set y k 0) (λ j pj.
      let ne : j ≡ k → ⊥ = λ z. omega (arith, ap (λ a. get_or p a 0) z) in
      get_or-set_other y k j 0 0 ne ∙ ⊎_elim (λ z. z ∙ pj) (λ z. absurd (omega (arith, z.0))) (ag j)) in
      omega (arith, more, count_set t y k 0 iny, hit_is t (get_or y k 0) e, hit_other t 0 (omega arith), s.here pos, ok.fits t pos s.top))
      (λ none. omega (arith, none k kin pk, ok.within k kin))
      over

  lower : (t room : ℕ) (p : List ℕ) → Sweep n last lo hi cap f t room p → 1 ≤ t → Over n hi t room p → (y : List ℕ) → Ok y → Agree t p y → Agree (t - 1) p y
  lower t room p s pos over y ok ag k =
      ⊎_elim inl
      (λ h. inr (h.0, ⊎_elim (λ e. absurd (not_at t room p s pos over y ok ag k h.0 e)) (λ ne. omega (arith, h.1)) (cases_eq (get_or y k 0) t)))
      (ag k)

  pub start : (m : ℕ) → n ≤ m → ((k : ℕ) → k < n → (lo k ≤ hi k) × (hi k ≤ last)) → Sweep n last lo hi cap f last (cap last) (replicate m 0)
  start m long ends =
      let size = length-replicate {A = ℕ} m 0 in
      let zeros : (k : ℕ) → get_or {A = ℕ} (replicate m 0) k 0 ≡ 0 = λ k. ⊎_elim (get_or-replicate {A = ℕ} m k 0 0) (λ l. get_or_past {X = ℕ} (replicate m 0) k 0 (omega arith)) (cases_lt k m) in
      record {
        top = omega arith;
        long = omega arith;
        low = λ k h _. omega (arith, ends k h);
        placed = λ k h z. absurd (omega (arith, zeros k));
        free = λ s pos _. count_none s m pos;
        here = λ pos. omega (arith, count_none last m pos);
        fits = λ s above upto. absurd (omega arith);
        better = λ x ok. (
          x,
          ok,
          omega arith,
          λ k. inr (
            zeros k,
            ⊎_elim
                (λ l. omega (arith, ok.within k l, ends k l))
                (λ l. omega (arith, get_or_past x k 0 (omega (arith, ok.size))))
                (cases_lt k n),
          ),
        );
      }

  pub put : (t room left b : ℕ) (p : List ℕ) → Sweep n last lo hi cap f t room p → 1 ≤ t → left + 1 ≡ room → b < n → get_or p b 0 ≡ 0 → t ≤ hi b →
      ((u : ℕ) → u ≤ t → f b u ≤ f b t) → ((k : ℕ) → k < n → get_or p k 0 ≡ 0 → t ≤ hi k → Swaps lo f t b k) → Sweep n last lo hi cap f t left (set p b t)
  put t room left b p s pos one inn pb high rises swaps =
      let inp : b < length p = omega (arith, s.long) in
      let low = s.low b inn pb in
      let other : (a : ℕ) → (a ≡ t → ⊥) → 1 ≤ a → count a (set p b t) ≡ count a p = λ a ne pa. omega (arith, count_set a p b t inp, hit_other a (get_or p b 0) (omega arith), hit_other a t (λ z. ne (sym z))) in
      record {
        top = s.top;
        long = omega (arith, s.long, length-set p b t);
        low = set_each (λ k w. k < n → w ≡ 0 → lo k ≤ t) p b t inp (λ _ _. low) (λ k _. s.low k);
        placed = set_each (λ k w. k < n → 1 ≤ w → (lo k ≤ w) × (w ≤ hi k)) p b t inp (λ _ _. (low, high)) (λ k _. s.placed k);
        free = λ a pa below. other a (omega arith) pa ∙ s.free a pa below;
        here = λ _. omega (arith, s.here pos, count_set t p b t inp, hit_is t t refl, hit_other t (get_or p b 0) (omega arith));
        fits = λ a above upto. omega (arith, other a (omega arith) (omega arith), s.fits a above upto);
        better = λ x ok.
            let r = s.better x ok in
            let q = exchange t b p r.0 r.1 r.3 pos inn inp low high pb (omega (arith, s.here pos)) rises swaps in
            (q.0, q.1, omega (arith, r.2, q.2), q.3);
      }

  pub close : (t room : ℕ) (p : List ℕ) → Sweep n last lo hi cap f t room p → 1 ≤ t → Over n hi t room p → ((k : ℕ) → k < n → get_or p k 0 ≡ 0 → lo k < t) → Sweep n last lo hi cap f (t - 1) (cap (t - 1)) p
  close t room p s pos over under =
      record {
        top = omega (arith, s.top);
        long = s.long;
        low = λ k h z. omega (arith, under k h z);
        placed = s.placed;
        free = λ a pa below. s.free a pa (omega arith);
        here = λ pa. omega (arith, s.free (t - 1) pa (omega arith));
        fits = λ a above upto. ⊎_elim (λ e. omega (arith, s.here pos, ap (λ z. count z p) e, ap cap e)) (λ ne. s.fits a (omega arith) upto) (cases_eq a t);
        better = λ x ok. let r = s.better x ok in (r.0, r.1, r.2, lower t room p s pos over r.0 r.1 r.3);
      }

  pub stuck : (t room k : ℕ) (p : List ℕ) → Sweep n last lo hi cap f t room p → 1 ≤ t → Over n hi t room p → k < n → get_or p k 0 ≡ 0 → t ≤ lo k → (x : List ℕ) → Ok x → ⊥
  stuck t room k p s pos over kin pk late x ok =
      let r = s.better x ok in
      ⊎_elim (λ e. omega (arith, e, pk, r.1.within k kin)) (λ h. omega (arith, h.1, r.1.within k kin)) (lower t room p s pos over r.0 r.1 r.3 k)

  pub done_fits : (room : ℕ) (p : List ℕ) → Sweep n last lo hi cap f 0 room p → ((k : ℕ) → k < n → 1 ≤ lo k) → Feasible n last lo hi cap (take n p)
  done_fits room p s early =
      record {
        size = length-take-le n p s.long;
        within = λ k h. rw (get_or-take n p k 0 h) (⊎_elim (λ e. absurd (omega (arith, early k h, s.low k h e))) (λ ne. s.placed k h (omega arith)) (cases_eq (get_or p k 0) 0));
        fits = λ t pos upto. omega (arith, count_take t n p, s.fits t (omega arith) upto);
      }

  pub done_most : (room : ℕ) (p : List ℕ) → Sweep n last lo hi cap f 0 room p → (x : List ℕ) → Feasible n last lo hi cap x → total f 0 x ≤ total f 0 (take n p)
  done_most room p s x ok =
      let r = s.better x ok in
      let same : r.0 ≡ take n p = ext_get_or 0 r.0 (take n p) (r.1.size ∙ sym (length-take-le n p s.long))
      (λ k h. ⊎_elim (λ e. e) (λ z. omega (arith, z.0, z.1)) (r.3 k) ∙ sym (get_or-take n p k 0 (omega (arith, r.1.size)))) in
      subst (λ l. total f 0 x ≤ total f 0 l) same r.2
