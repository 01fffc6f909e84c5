use Rattle.std.proofs.Common.{◌+◌, ◌^◌, [], arith}
use Rattle.luks_argon2.specs.Argon2.{first_digest}
use Rattle.luks_argon2.proofs.DigestLemmas.{HasAbsorbed, absorbs_field, absorbs_number, digest_of_absorbed}
use Rattle.luks_argon2.proofs.first_blocks.first_digest.Goals as goal

pub returns : goal.returns
unfolding first_digest
returns c =
    let password = c.args.password.now in
    let salt = c.args.salt.now in
    let fields = 24 + 2 ^ 33 + 2 ^ 33 in
    let start : HasAbsorbed c.new-hasher.result [] 0 = record { is = c.new-hasher.ensures; short = omega arith } in
    let a1 = absorbs_number _ _ _ c.args.parameters.lanes 0 start (omega arith) c.update_le32.ensures in
    let a2 = absorbs_number _ _ _ c.args.tag_len 4 a1 (omega arith) c.update_le32-2.ensures in
    let a3 = absorbs_number _ _ _ c.args.parameters.memory_kib 8 a2 (omega arith) c.update_le32-3.ensures in
    let a4 = absorbs_number _ _ _ c.args.parameters.passes 12 a3 (omega arith) c.update_le32-4.ensures in
    let a5 = absorbs_number _ _ _ 0x13 16 a4 (omega arith) c.update_le32-5.ensures in
    let a6 = absorbs_number _ _ _ c.variant_number.result 20 a5 (omega arith) c.update_le32-6.ensures in
    let a7 = absorbs_field _ _ _ password 24 a6 (omega arith) c.requires.password c.update_with_length.ensures in
    let a8 = absorbs_field _ _ _ salt (24 + 2 ^ 33) a7 (omega arith) c.requires.salt c.update_with_length-2.ensures in
    let a9 = absorbs_number _ _ _ 0 fields a8 (omega arith) c.update_le32-7.ensures in
    let a10 = absorbs_number _ _ _ 0 (fields + 4) a9 (omega arith) c.update_le32-8.ensures in
    rw c.variant_number.ensures at (digest_of_absorbed _ _ _ (fields + 8) a10 (omega arith) c.finish.ensures)
