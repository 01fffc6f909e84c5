use Rattle.std.proofs.Common.{◌≡◌, ◌+◌, ◌*◌, ◌%◌, ◌∙◌, arith, refl, ap, sym, subst}
use Rattle.std.proofs.lemmas.List.{map-set}
use Rattle.sha2.proofs.Schedule256.{IsRoundsAt_at, rounds_window, window_word_place}
use Rattle.luks_kdf.specs.LaneWords.{AllTwice, lane, word}
use Rattle.luks_kdf.proofs.LaneLemmas.{twice_set}
use Rattle.luks_kdf.proofs.sha256_block.step.Goals as goal

pub returns : goal.returns
returns c = λ j b h in_lane held.
    let t = 16 * c.args.group + c.args.index in
    let at : t % 16 ≡ c.args.index = omega arith in
    let next = c.next_word-next.ensures in
    let old = lane j c.args.w.now in
    let moved = ap (lane j) next.window ∙ map-set (word j) c.args.w.now c.args.index c.next_word-next.result in
    record {
      window = subst (AllTwice j) (sym next.window)
          (twice_set j c.args.w.now c.args.index c.next_word-next.result (next.twice j in_lane) held.window);
      variables = c.round.ensures.twice j in_lane held.variables;
      rounds = IsRoundsAt_at b h _ _ (t + 1) _ (omega arith)
          (rounds_window b h old (lane j c.args.v) t _ _ _ _ (omega arith) (omega arith) held.rounds.0 held.rounds.1
          (next.value j in_lane held.window ∙ window_word_place old c.args.group c.args.index) (rw at moved) refl
          (c.round.ensures.value j in_lane held.variables));
    }
