use Rattle.std.proofs.Common.{◌≡◌, ◌∙◌, ap, length, refl, replicate, sym}
use Rattle.std.proofs.lemmas.List.{length-replicate}
use Rattle.luks_argon2.specs.Argon2.{argon2}
use Rattle.luks_argon2.specs.Block.{zero_block}
use Rattle.luks_argon2.specs.Parameters.{memory_blocks}
use Rattle.luks_argon2.proofs.tag.write_tag.Goals as goal

pub returns : goal.returns
unfolding argon2
returns c = record {
  memory =
      let n = memory_blocks c.args.parameters.memory_kib c.args.parameters.lanes in
      let len : length c.derive_in.new.memory ≡ n =
      c.derive_in.auto.memory ∙ (ap length c.requires.memory ∙ length-replicate n zero_block) in
      c.clear.ensures ∙ ap (λ k. replicate k zero_block) len ∙ sym c.requires.memory;
  tag =
      c.derive_in.ensures ∙ rw (
        c.requires.memory,
        c.first_digest-h0.ensures,
        c.layout_of-layout.ensures.value,
      ) refl;
}
