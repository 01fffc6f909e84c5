use Rattle.std.proofs.Common.{◌/◌, ap, arith, ◌∙◌, add-one, refl, rules, length}
use Rattle.luks_aes.specs.Aes.{encrypted}
use Rattle.luks_cipher.specs.Xts.{block_xor}
use Rattle.luks_cipher.specs.Cbc.{chained, cbc_encrypted, cbc_decrypted}
use Rattle.luks_cipher.proofs.UnitLemmas.{done_none, done_all, block_is, progress_next}
use Rattle.luks_cipher.proofs.UnitsUndone.{cbc_decrypted-cbc_encrypted}
use Rattle.luks_cipher.proofs.cbc.encrypt_chain.Goals as goal

pub loop-j-init : goal.loop-j-init
unfolding chained
loop-j-init c = (
  record { len = omega arith; bytes = record { each = search rules } },
  record { bytes = record { each = search rules }; next = refl; done = done_none _ _ _ },
)

pub loop-j-preserved : goal.loop-j-preserved
unfolding chained
loop-j-preserved c =
    let j = c.loop-j.j in
    let before = c.loop-j.invariant.1 in
    let block = block_is c.args.unit.now c.loop-j.unit j before.done.left in
    let link = c.encrypt_link-next.ensures in (
      c.loop-j.invariant.0,
      progress_next _ _ _ _ _ _ _ j before (omega arith) (omega arith) link.value
          (rw add-one (link.next ∙ link.value
          ∙ (λ i. encrypted c.args.key.now (block_xor (block i) (before.next i))))),
    )

pub returns-clause-value : goal.returns-clause-value
unfolding cbc_encrypted chained
returns-clause-value c =
    let last = c.loop-j.j in
    done_all _ _ c.args.unit.now c.loop-j.unit last (length c.args.unit.now / 16) c.loop-j.invariant.1.done
    (omega arith) (omega arith)

pub returns-clause-undone : goal.returns-clause-undone
returns-clause-undone c =
    ap (cbc_decrypted c.args.key.now c.args.iv) (returns-clause-value c)
    ∙ cbc_decrypted-cbc_encrypted c.args.key.now c.args.iv c.args.unit.now c.holds_bytes.ensures
    c.loop-j.invariant.0 c.loop-j.invariant.1.bytes (omega arith)
