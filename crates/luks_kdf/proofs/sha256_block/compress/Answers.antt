use Rattle.std.proofs.Common.{◌≡◌, ◌*◌, ◌∙◌, [], ap, arith, refl, ◌∷◌}
use Rattle.sha2.specs.Sha256.{add_state, compress, rounds}
use Rattle.luks_kdf.specs.LaneWords.{IsPairAt, lane}
use Rattle.luks_kdf.proofs.LaneLemmas.{all_twice, below_eight, pair_at, window256_of_block, word_of_lane}
use Rattle.luks_kdf.proofs.sha256_block.compress.Goals as goal

pub schedule-init : goal.schedule-init
unfolding rounds
schedule-init g c = λ j b in_lane twice words block.
    let h = lane j c.args.state.now in
    let s1 = c.first_four_steps-v.ensures j b h in_lane block (record { variables = twice; rounds = refl }) in
    let s2 = c.first_four_steps-v-2.ensures j b h in_lane block s1 in
    let s3 = c.first_four_steps-v-3.ensures j b h in_lane block s2 in
    let s4 = c.first_four_steps-v-4.ensures j b h in_lane block s3 in
    let filled : IsPairAt j b h c.args.words.now c.first_four_steps-v-4.result 16 = record {
      window = words;
      variables = s4.variables;
      rounds = (window256_of_block j c.args.words.now b block, s4.rounds);
    } in
    let p1 = c.four_steps-v.ensures j b h in_lane filled in
    let p2 = c.four_steps-v-2.ensures j b h in_lane p1 in
    let p3 = c.four_steps-v-3.ensures j b h in_lane p2 in
    c.four_steps-v-4.ensures j b h in_lane p3

pub schedule-preserved : goal.schedule-preserved
schedule-preserved g c = λ j b in_lane twice words block.
    let h = lane j c.args.state.now in
    let s1 = c.four_steps-v-in-schedule.ensures j b h in_lane
    (pair_at j b h _ _ _ _ (omega arith) (c.schedule.invariant j b in_lane twice words block)) in
    let s2 = c.four_steps-v-in-schedule-2.ensures j b h in_lane s1 in
    let s3 = c.four_steps-v-in-schedule-3.ensures j b h in_lane s2 in
    let s4 = c.four_steps-v-in-schedule-4.ensures j b h in_lane s3 in
    pair_at j b h _ _ _ _ (omega arith) s4

pub returns : goal.returns
unfolding compress
returns g c = λ j b in_lane twice words block.
    let state = c.args.state.now in
    let done : 16 * c.schedule.group ≡ 64 = omega (arith, c.schedule.auto.group-end (omega arith)) in
    let held = pair_at j b (lane j state) _ _ _ _ done (c.schedule.invariant j b in_lane twice words block) in (
      all_twice j (c.twice.result ∷ c.twice-2.result ∷ c.twice-3.result ∷ c.twice-4.result ∷ c.twice-5.result
          ∷ c.twice-6.result ∷ c.twice-7.result ∷ c.twice-8.result ∷ [])
          (below_eight _ (c.twice.ensures.twice j in_lane) (c.twice-2.ensures.twice j in_lane)
          (c.twice-3.ensures.twice j in_lane) (c.twice-4.ensures.twice j in_lane) (c.twice-5.ensures.twice j in_lane)
          (c.twice-6.ensures.twice j in_lane) (c.twice-7.ensures.twice j in_lane) (c.twice-8.ensures.twice j in_lane)),
      rw (
        c.twice.ensures.word j in_lane,
        c.add.ensures j in_lane,
        c.twice-2.ensures.word j in_lane,
        c.add-2.ensures j in_lane,
        c.twice-3.ensures.word j in_lane,
        c.add-3.ensures j in_lane,
        c.twice-4.ensures.word j in_lane,
        c.add-4.ensures j in_lane,
        c.twice-5.ensures.word j in_lane,
        c.add-5.ensures j in_lane,
        c.twice-6.ensures.word j in_lane,
        c.add-6.ensures j in_lane,
        c.twice-7.ensures.word j in_lane,
        c.add-7.ensures j in_lane,
        c.twice-8.ensures.word j in_lane,
        c.add-8.ensures j in_lane,
      ) ((simp word_of_lane) ∙ ap (add_state (lane j state)) held.rounds.1),
    )
