use Rattle.std.proofs.Common.{◌+◌, ◌*◌, ◌∙◌, take, ap}
use Rattle.luks_aes.specs.Aes.{cipher, encrypted}
use Rattle.luks_aes.proofs.key_schedule.KeySchedule.encrypt_block.Goals as goal

pub returns : goal.returns
unfolding encrypted
returns c key is =
    let rounds = c.rounds-rounds.ensures.value key is in
    let words = c.round_keys.ensures.value
    ∙ ap (λ n. take (16 * (n + 1)) c.args.self.now.bytes) rounds ∙ is.expanded in
    c.cipher.ensures ∙ (λ i. cipher c.args.block.now (rounds i) (words i))
