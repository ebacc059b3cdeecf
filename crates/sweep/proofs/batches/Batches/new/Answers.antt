use Rattle.std.proofs.Common.{◌≡◌, ◌-◌, take, ap, ◌∙◌, arith}
use Rattle.std.proofs.lemmas.List.Elements.{All-same}
use Rattle.sweep.specs.Charges.{IsSound}
use Rattle.sweep.proofs.Sounds.{all_sound}
use Rattle.sweep.proofs.batches.Batches.new.Goals as goal
use Rattle.sweep.proofs.batches.Batches.new.Goals.{then-periods-gt64-via-then-periods-gt64, then-periods-gt64-via-else-periods-gt64+in_ok-get+then-not-all_sound}

pub returns-then-periods-gt64 : goal.returns-then-periods-gt64
returns-then-periods-gt64 c sound =
    elim c.then-periods-gt64.branch [
      | then-periods-gt64-via-then-periods-gt64 w ↦ omega (arith, sound.most)
      | then-periods-gt64-via-else-periods-gt64+in_ok-get+then-not-all_sound w ↦
          let got = w.in_ok-get.ensures.lookup.0 in
          let same : c.args.count - 0 ≡ c.args.count = omega arith in
          let all = All-same (IsSound c.args.periods) _ _ (got.2 ∙ ap (λ n. take n c.args.each) same) (all_sound c.args.count c.args.periods c.args.each got.1 sound) in
          let told = w.all_sound.ensures.1 all in
          let bad = w.if-not-all_sound.true in
          cc
    ]
