-- What a listing says is true.
use Rattle.std.proofs.Common.{◌≡◌, ℕ, ◌*◌, ◌<◌, ◌≤◌, Bool, true, false, cond, eqb, List, [], length, Some, None, Option, sym, refl, ap, ◌∙◌, subst, arith}
use Rattle.std.proofs.lemmas.List.FromFn.{length-map-range_with_len}
use Rattle.std.proofs.lemmas.Bool.{cond-true, cond-false, eq-eqb, ne_eqb, le-leb, and_from}
use Rattle.std.proofs.lemmas.Option.{none-some}
use Rattle.windows.specs.declared.refusal.Refusal.{Refusal}
use Rattle.windows.specs.Refusals.{number}
use Rattle.windows.specs.WindowSets.{WindowSet, Proper}
use Rattle.windows.specs.Filling.{paired}
use Rattle.windows.proofs.Fills.{length_paired}
use Rattle.windows.proofs.Held.{numbered}
use Rattle.rule.specs.Meaning.{Meaning, max_charge}
use Rattle.flat.specs.Tests.{same_size}
use Rattle.runs.specs.Run.{Plan, State, is_done}
use Rattle.runs.specs.Law.{opens, Contends, BestAtEnd, NothingLost, product}
use Rattle.sheet.specs.Layout.{batch_count, period_count, cap_told, earliest_periods, latest_periods, sheet_windows, sheet_rule}
use Rattle.sheet.specs.Checks.{sheet_refusal}
use Rattle.sheet.proofs.Frames.{accepted_limits}
use Rattle.report.specs.Texts.{plan_text, refused_text, done_text, stopped_text, state_text, SmallIfAny}
use Rattle.report.proofs.Readings.{one_reading, stopped_text_one}
use Rattle.listing.specs.Running.{searched, searched_text, Ended}
use Rattle.listing.specs.Listing.{max_steps, sheet_standing, sheet_state, listing_text, Charged, Truthful, Told}
use Rattle.listing.proofs.Readings.{opening, told}

-- The greatest number of a refusal.
numbered_most : (e : Refusal) → number e ≤ 14
numbered_most e = grind arith

-- What is known of a search, once its opening is accepted.
abbrev Ends : Meaning → WindowSet → ℕ → Type 0
Ends m w limit = opens m w limit ≡ true → Ended m (record { windows = w; cap = limit }) max_steps (searched m w limit max_steps)

-- The plan, if there is one, is a contender with its charge.
abbrev HeldPlan : List ℕ → Option Plan → Type 0
HeldPlan b None = Unit {0}
HeldPlan b (Some p) = Contends (sheet_rule b) (sheet_standing b) p.schedule × Charged b p

module _ (b : List ℕ) where
  -- A refused sheet.
  refused_text_is : (k : ℕ) → 1 ≤ k → sheet_refusal b ≡ k → listing_text b ≡ refused_text k
  refused_text_is k h e = cond-false (eqb (sheet_refusal b) 0) _ _ (ne_eqb (sheet_refusal b) 0 (λ z. omega arith)) ∙ ap refused_text e

  refused_truthful : (k : ℕ) → 1 ≤ k → k ≤ 14 → sheet_refusal b ≡ k → Truthful b (listing_text b)
  refused_truthful k h l e =
      subst (Truthful b) (sym (refused_text_is k h e)) (record {
        best = λ p small q. absurd (one_reading.plan_not_refused p k (sym q));
        none = λ q. absurd (one_reading.none_not_refused k (sym q));
        stopped = λ rest q. absurd (one_reading.refused_not_stopped k rest q);
        held = λ p small q. absurd (one_reading.refused_not_stopped k (plan_text p) q);
        refused = λ j i q. e ∙ one_reading.one_refusal k j l i q;
      })

  pub refused_told : (e : Refusal) → sheet_refusal b ≡ number e → Told b (refused_text (number e))
  refused_told e h = record { is = sym (refused_text_is (number e) (numbered e) h); truthful = refused_truthful (number e) (numbered e) (numbered_most e) h }

  -- An accepted one.
  pub accepted_text_is : sheet_refusal b ≡ 0 → listing_text b ≡ state_text (sheet_state b)
  accepted_text_is e = cond-true (eqb (sheet_refusal b) 0) _ _ (eq-eqb (sheet_refusal b) 0 e)

  module _ (accepted : sheet_refusal b ≡ 0) (proper : Proper (sheet_windows b)) (low : cap_told b ≤ max_charge) where
    -- The plan held keeps its limits.
    plan_small : (parts : List WindowSet) (o : Option Plan) → NothingLost (sheet_rule b) (Some (sheet_standing b)) parts o → SmallIfAny o
    plan_small parts None h = tt
    plan_small parts (Some p) h =
        record {
          charge = omega (arith, h.1, h.0.cheap);
          periods = λ k i. (let j : k < length (sheet_windows b).each = omega (arith, h.0.lies.same_size) in omega (arith, h.0.lies.not_after k j, proper.ends k j, proper.most));
        }

    module _ (parts : List WindowSet) where
      done_truthful : (o : Option Plan) → NothingLost (sheet_rule b) (Some (sheet_standing b)) parts o → BestAtEnd (sheet_rule b) (Some (sheet_standing b)) o → Truthful b (done_text o)
      done_truthful None kept best =
          record {
            best = λ p small q. absurd (one_reading.plan_not_none p (sym q));
            none = λ q. (accepted, best);
            stopped = λ rest q. absurd (one_reading.none_not_stopped rest q);
            held = λ p small q. absurd (one_reading.none_not_stopped (plan_text p) q);
            refused = λ j i q. absurd (one_reading.none_not_refused j q);
          }
      done_truthful (Some p) kept best =
          record {
            best = λ q small e. subst (λ (x : Plan). (sheet_refusal b ≡ 0) × BestAtEnd (sheet_rule b) (Some (sheet_standing b)) (Some x) × Charged b x) (one_reading.one_plan p q (plan_small parts (Some p) kept) small e) (accepted, best, kept.1);
            none = λ q. absurd (one_reading.plan_not_none p q);
            stopped = λ rest q. absurd (one_reading.plan_not_stopped p rest q);
            held = λ x small q. absurd (one_reading.plan_not_stopped p (plan_text x) q);
            refused = λ j i q. absurd (one_reading.plan_not_refused p j q);
          }

      stopped_truthful : (o : Option Plan) → NothingLost (sheet_rule b) (Some (sheet_standing b)) parts o → max_steps < 2 * product (sheet_windows b).each → Truthful b (stopped_text o)
      stopped_truthful None kept large =
          record {
            best = λ p small q. absurd (one_reading.plan_not_stopped p [] (sym q));
            none = λ q. absurd (one_reading.none_not_stopped [] (sym q));
            stopped = λ rest q. (accepted, large);
            held = λ p small q. absurd (none-some p (stopped_text_one None (Some p) tt small q));
            refused = λ j i q. absurd (one_reading.refused_not_stopped j [] (sym q));
          }
      stopped_truthful (Some p) kept large =
          record {
            best = λ q small e. absurd (one_reading.plan_not_stopped q (plan_text p) (sym e));
            none = λ q. absurd (one_reading.none_not_stopped (plan_text p) (sym q));
            stopped = λ rest q. (accepted, large);
            held = λ q small e. subst (λ (o : Option Plan). HeldPlan b o) (stopped_text_one (Some p) (Some q) (plan_small parts (Some p) kept) small e) (kept.0, kept.1);
            refused = λ j i q. absurd (one_reading.refused_not_stopped j (plan_text p) (sym q));
          }

    pub accepted_truthful : Ended (sheet_rule b) (sheet_standing b) max_steps (sheet_state b) → Truthful b (listing_text b)
    accepted_truthful e = subst (Truthful b) (sym (accepted_text_is accepted)) (go (is_done s.phase) e.best e.large)
      where
        s : State
        s = sheet_state b

        go : (d : Bool) → (d ≡ true → BestAtEnd (sheet_rule b) (Some (sheet_standing b)) s.plan) → (d ≡ false → max_steps < 2 * product (sheet_windows b).each) → Truthful b (cond d (done_text s.plan) (stopped_text s.plan))
        go true best large = done_truthful s.parts s.plan e.kept (best refl)
        go false best large = stopped_truthful s.parts s.plan e.kept (large refl)

  -- The search of an accepted sheet is opened.
  sheet_opens : sheet_refusal b ≡ 0 → opens (sheet_rule b) (sheet_windows b) (cap_told b) ≡ true
  sheet_opens e =
      let n = batch_count b in
      let T = period_count b in
      let long : length (paired (earliest_periods b) (latest_periods b)) ≡ n = length_paired (earliest_periods b) (latest_periods b) (length-map-range_with_len _ 0 n ∙ sym (length-map-range_with_len _ 0 n)) ∙ length-map-range_with_len _ 0 n in
      let fits : same_size n T (length (paired (earliest_periods b) (latest_periods b))) T ≡ true = and_from _ _ (eq-eqb _ n long) (eq-eqb T T refl) in
      and_from _ _ (and_from _ _ fits fits) (le-leb (cap_told b) max_charge (accepted_limits b e).low)

  -- What is told of its search, with the sheet's rule, windows and cap under other names.
  pub accepted_told : (m : Meaning) (w : WindowSet) (limit : ℕ) (text : List ℕ) → sheet_refusal b ≡ 0 → m ≡ sheet_rule b → w ≡ sheet_windows b → limit ≡ cap_told b → Proper w
      → text ≡ searched_text m w limit max_steps → Ends m w limit → Told b text
  accepted_told m w limit text z p q r proper e end =
      let told_text : text ≡ searched_text (sheet_rule b) (sheet_windows b) (cap_told b) max_steps = e ∙ rw (p, q, r) in
      let zero = opening (sheet_rule b) (sheet_windows b) (cap_told b) (sheet_opens z) in
      let same_end : Ends (sheet_rule b) (sheet_windows b) (cap_told b) = subst (λ (x : Meaning). Ends x (sheet_windows b) (cap_told b)) p (subst (λ (x : WindowSet). Ends m x (cap_told b)) q (subst (Ends m w) r end)) in
      record {
        is = told_text ∙ told (sheet_rule b) (sheet_windows b) (cap_told b) max_steps zero ∙ sym (accepted_text_is z);
        truthful = accepted_truthful z (subst Proper q proper) (accepted_limits b z).low (same_end (sheet_opens z));
      }
