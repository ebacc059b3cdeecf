-- A narrowing leaves windows inside those before.
use Rattle.std.proofs.Common.{◌≡◌, ℕ, ◌≤◌, Bool, cond, not, ltb, Ok, Err, Result, sym, subst, arith}
use Rattle.std.proofs.lemmas.Bool.Decides.{nat_tests}
use Rattle.windows.specs.declared.refusal.Refusal.{Refusal}
use Rattle.windows.specs.declared.windows.Windows.{Windows}
use Rattle.windows.specs.WindowSets.{Inside}
use Rattle.windows.specs.Filling.{set_of}
use Rattle.windows.proofs.Held.{held_proper}
use Rattle.rule.specs.Meaning.{Meaning, Lawful, max_charge}
use Rattle.rule.specs.Narrowing.{fitting, Narrowed}
use Rattle.runs.proofs.Insides.{inside_self}

not_above : (fits : Bool) (limit k : ℕ) → cond (not fits) 7 (cond (ltb max_charge limit) 8 k) ≡ 0 → limit ≤ max_charge
not_above fits limit k e = grind (arith, nat_tests)

pub cut_within : {m : Meaning} → Lawful m → (limit : ℕ) (w v : Windows) (r : Result (Unit {0}) Refusal) → Narrowed m limit w v r → Inside (set_of v).each (set_of w).each
cut_within {m = m} law limit w v (Ok u) h = (law.cut_inside (set_of w) (set_of v) limit (held_proper w) (not_above (fitting m (set_of w)) limit _ h.0) h.1).1
cut_within law limit w v (Err e) h = subst (λ (u : Windows). Inside (set_of u).each (set_of w).each) (sym h.1) (inside_self (set_of w).each)
