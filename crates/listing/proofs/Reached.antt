-- A search with a limited number of steps is a search by calls, so the law of every run holds of what it comes to.
use Rattle.std.proofs.Common.{◌≡◌, ℕ, zero, suc, ◌+◌, true, false, cond, ◌≢◌, List, [], ◌∷◌, Some, None, Option, sym, refl, ap, ◌∙◌, subst, ⊎_elim, arith}
use Rattle.std.proofs.lemmas.Bool.{cond-true, cases_Bool, both_ways, eq-eqb}
use Rattle.windows.specs.WindowSets.{WindowSet, Proper}
use Rattle.rule.specs.Meaning.{Meaning, Lawful}
use Rattle.runs.specs.declared.phase.Phase.{Phase}
use Rattle.runs.specs.declared.phase.Phase.TheVariants.{Done}
use Rattle.runs.specs.Run.{Call, «open», step, is_idle, is_done, refusal, accepted, after}
use Rattle.runs.specs.Law.{Standing, standing, steps, opens, product, windows_of, NothingLost, BestAtEnd, Given}
use Rattle.runs.proofs.Runs.{every_run}
use Rattle.listing.specs.Running.{steps_until_done, searched, Ended}
use Rattle.listing.proofs.Budgets.{none_left, at_end, one_more}

not_done : (p : Phase) → is_done p ≡ false → p ≢ Done
not_done p e = λ q. both_ways (is_done p) e (ap is_done q)

done_is : (p : Phase) → is_done p ≡ true → p ≡ Done
done_is p e = grind arith

steps_awake : (p : Phase) → ◌≡◌ {A = ℕ} (cond (is_idle p) 10 (cond (is_done p) 11 0)) 0 → is_idle p ≡ false
steps_awake p e = grind arith

-- The calls cs, and more steps after them: as many as were taken of k.
record Reach (m : Meaning) (o : Standing) (k : ℕ) (cs : List Call) : Type 0 where
  calls : List Call
  given : Given calls
  stands : standing m calls ≡ Some o
  is : steps_until_done m k (after m cs) ≡ after m calls
  all : is_done (after m calls).phase ≡ false → steps m calls ≡ k + steps m cs

reach : (m : Meaning) → Lawful m → (o : Standing) (k : ℕ) (cs : List Call) → Given cs → standing m cs ≡ Some o → Reach m o k cs
reach m law o zero cs g e = record { calls = cs; given = g; stands = e; is = none_left m zero (after m cs) refl; all = λ _. omega arith }
reach m law o (suc k) cs g e =
    ⊎_elim
    (λ d. record { calls = cs; given = g; stands = e; is = at_end m (suc k) (after m cs) d; all = λ n. absurd (both_ways (is_done (after m cs).phase) n d) })
    (λ n.
    let r = reach m law o k (step ∷ cs) g e in
    let accept : accepted m (after m cs) step ≡ true = eq-eqb (refusal m (after m cs) step) 0 ((every_run m law cs g).accepts o e (not_done (after m cs).phase n)) in
    let one : steps m (step ∷ cs) ≡ 1 + steps m cs = ap (λ (t : ℕ). t + steps m cs) (cond-true (accepted m (after m cs) step) 1 0 accept) in
    record { calls = r.calls; given = r.given; stands = r.stands; is = one_more m k (after m cs) n ∙ r.is; all = λ b. omega (arith, r.all b, one) })
    (cases_Bool (is_done (after m cs).phase))

pub ended : (m : Meaning) → Lawful m → (w : WindowSet) (limit k : ℕ) → Proper w → opens m w limit ≡ true → Ended m (record { windows = w; cap = limit }) k (searched m w limit k)
ended m law w limit k p e =
    let o : Standing = record { windows = w; cap = limit } in
    let cs : List Call = «open» w limit ∷ [] in
    let r = reach m law o k cs (p, tt) (cond-true (opens m w limit) (Some o) None e) in
    let u = every_run m law r.calls r.given in
    let zero_steps : steps m cs ≡ 0 = cond-true (opens m w limit) 0 0 e in
    subst (Ended m o k) (sym r.is) (record {
      kept = subst (λ (x : Option Standing). NothingLost m x (after m r.calls).parts (after m r.calls).plan) r.stands u.nothing_lost;
      best = λ d. subst (λ (x : Option Standing). BestAtEnd m x (after m r.calls).plan) r.stands (u.best_at_end (done_is (after m r.calls).phase d));
      awake = ⊎_elim
          (λ d. ap is_idle (done_is (after m r.calls).phase d))
          (λ n. steps_awake (after m r.calls).phase (u.accepts o r.stands (not_done (after m r.calls).phase n)))
          (cases_Bool (is_done (after m r.calls).phase));
      large = λ n. omega (arith, r.all n, zero_steps, u.few_steps, ap (λ (x : Option Standing). product (windows_of x)) r.stands);
    })
