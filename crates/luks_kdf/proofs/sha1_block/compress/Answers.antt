use Rattle.std.proofs.Common.{◌∙◌, ap}
use Rattle.sha1.specs.Sha1.{add_state, compress}
use Rattle.luks_kdf.specs.LaneWords.{lane}
use Rattle.luks_kdf.proofs.LaneLemmas.{word_of_lane}
use Rattle.luks_kdf.proofs.sha1_block.compress.Goals as goal

pub returns : goal.returns
unfolding compress
returns g c = λ j b in_lane block.
    let h = lane j c.args.state.now in
    let s1 = c.first_twenty_steps-v.ensures j b in_lane block in
    let s2 = c.twenty_steps-v.ensures j b h in_lane s1 in
    let s3 = c.twenty_steps-v-2.ensures j b h in_lane s2 in
    let done = c.twenty_steps-v-3.ensures j b h in_lane s3 in
    rw (
      c.five.ensures,
      c.add.ensures j in_lane,
      c.add-2.ensures j in_lane,
      c.add-3.ensures j in_lane,
      c.add-4.ensures j in_lane,
      c.add-5.ensures j in_lane,
    ) ((simp word_of_lane) ∙ ap (add_state h) done.1)
