-- What narrowing by a rule answers, and what the windows hold afterwards.
use Rattle.std.specs.Prelude.{◌≡◌, ℕ, Bool, true, false, not, List, [], ◌∷◌, length, Some, None, Ok, Err, Option, Result, nat_lt}
use Rattle.windows.specs.declared.refusal.Refusal.{Refusal}
use Rattle.windows.specs.declared.refusal.Refusal.TheVariants.{NoSchedule}
use Rattle.windows.specs.declared.windows.Windows.{Windows}
use Rattle.windows.specs.Refusals.{number, struck}
use Rattle.windows.specs.WindowSets.{WindowSet}
use Rattle.windows.specs.Filling.{set_of}
use Rattle.rule.specs.Meaning.{Meaning, max_charge}

abbrev pub none : {X : Type 0} → Option X → Bool
none None = true
none (Some x) = false

abbrev pub fitting : Meaning → WindowSet → Bool
fitting m w = m.fits (length w.each) w.periods

-- What is judged before a cut is asked for: the windows don't fit, or the cap is above C.
abbrev pub first_checks : Bool → ℕ → List (ℕ × Bool)
first_checks fits limit = (7, not fits) ∷ ((8, nat_lt max_charge limit) ∷ [])

-- The windows don't fit, the cap is above C, or else the cut is none.
abbrev pub narrow_checks : Meaning → ℕ → WindowSet → List (ℕ × Bool)
narrow_checks m limit w =
    (7, not (fitting m w)) ∷
    ((8, nat_lt max_charge limit) ∷
    ((9, none (m.cut w limit)) ∷ []))

-- Accepted, the windows are the cut; refused, they are as before.
abbrev pub Narrowed : Meaning → ℕ → Windows → Windows → Result (Unit {0}) Refusal → Type 0
Narrowed m limit before after (Ok u) = (struck (narrow_checks m limit (set_of before)) ≡ 0) × (m.cut (set_of before) limit ≡ Some (set_of after))
Narrowed m limit before after (Err e) = (struck (narrow_checks m limit (set_of before)) ≡ number e) × (after ≡ before)

-- A fill call of a rule, with its checks and what the rule is to mean: it means that now, or is as before.
abbrev pub Loaded : {X : Type 0} → (X → Meaning) → List (ℕ × Bool) → Meaning → X → X → Result (Unit {0}) Refusal → Type 0
Loaded meaning checks wanted before after (Ok u) = (struck checks ≡ 0) × (meaning after ≡ wanted)
Loaded meaning checks wanted before after (Err e) = (struck checks ≡ number e) × (after ≡ before)

-- What is left of a narrowing once the windows fit and the cap is not above C.
abbrev pub CutTo : Option WindowSet → Windows → Windows → Result (Unit {0}) Refusal → Type 0
CutTo o before after (Ok u) = o ≡ Some (set_of after)
CutTo o before after (Err e) = (o ≡ None) × (e ≡ NoSchedule) × (after ≡ before)
