use Rattle.std.proofs.Common.{◌+◌, ◌-◌, ◌*◌, ◌/◌, length, take, drop, ap, arith, ◌∙◌, add-one, rules}
use Rattle.std.proofs.lemmas.List.{length-take-le}
use Rattle.luks_aes.specs.Bytes.{IsBytes}
use Rattle.luks_aes.specs.Aes.{decrypted}
use Rattle.luks_cipher.specs.Xts.{block_xor}
use Rattle.luks_cipher.specs.Cbc.{block_before, cbc_encrypted, cbc_decrypted}
use Rattle.luks_cipher.proofs.UnitLemmas.{done_all, block_is, progress_first, progress_next, before_of_part}
use Rattle.luks_cipher.proofs.UnitsUndone.{cbc_decrypted-cbc_encrypted, cbc_encrypted-cbc_decrypted}
use Rattle.luks_cipher.proofs.cbc.decrypt_chain.Goals as goal

pub rest-init : goal.rest-init
unfolding cbc_decrypted
rest-init c =
    let unit = c.args.unit.now in
    let batches = c.decrypt_batches-before in
    let size = length-take-le (16 * (length unit / 16 / 32 * 32)) unit (omega arith) in
    record {
      iv = record { len = omega arith; bytes = record { each = search rules } };
      progress = progress_first _ _ (block_before c.args.iv _) _ batches.new.unit _ _ _
          (record { each = search rules }) (omega arith) (omega (arith, size)) (omega (arith, size))
          (batches.ensures.value c.args.key.now c.round_keys.ensures) batches.ensures.next
          (λ n few. before_of_part c.args.iv unit _ n few);
    }

pub rest-preserved : goal.rest-preserved
unfolding block_before
rest-preserved c =
    let j = c.rest.j in
    let before = c.rest.invariant.progress in
    let held = c.key-block_key.ensures in
    let block = block_is c.args.unit.now c.rest.unit j before.done.left in
    record {
      iv = c.rest.invariant.iv;
      progress = progress_next _ _ _ _ _ _ _ j before (omega arith) (omega arith)
          (c.decrypt_link-next.ensures.value
          ∙ (λ k. block_xor (decrypted (held k) (take (16 * j + 16 - 16 * j) (drop (16 * j) c.rest.unit)))
          c.rest.before))
          (rw add-one (c.decrypt_link-next.ensures.next ∙ block));
    }

pub returns-clause-value : goal.returns-clause-value
unfolding cbc_decrypted
returns-clause-value c =
    done_all _ _ c.args.unit.now c.rest.unit c.rest.j (length c.args.unit.now / 16) c.rest.invariant.progress.done
    (omega arith) (omega arith)

pub returns-clause-undoes : goal.returns-clause-undoes
returns-clause-undoes c plain bytes same is =
    let keys : IsBytes c.args.key.now = rw (← c.key-block_key.ensures) c.holds_bytes.ensures in
    returns-clause-value c
    ∙ (ap (cbc_decrypted c.args.key.now c.args.iv) is
    ∙ cbc_decrypted-cbc_encrypted c.args.key.now c.args.iv plain keys c.rest.invariant.iv bytes
    (rw same c.requires))

pub returns-clause-undone : goal.returns-clause-undone
returns-clause-undone c =
    let keys : IsBytes c.args.key.now = rw (← c.key-block_key.ensures) c.holds_bytes.ensures in
    ap (cbc_encrypted c.args.key.now c.args.iv) (returns-clause-value c)
    ∙ cbc_encrypted-cbc_decrypted c.args.key.now c.args.iv c.args.unit.now keys c.rest.invariant.iv
    c.rest.invariant.progress.bytes (omega arith)
