use Rattle.std.proofs.Common.{◌/◌, rules}
use Rattle.luks_aes.specs.Aes.{cell}
use Rattle.luks_aes.proofs.WordLemmas.{from_planes}
use Rattle.luks_aes.proofs.batch.round_keys.equal_blocks.Goals as goal

pub returns : goal.returns
returns c = record {
  at = λ g low.
      from_planes (λ r q. cell c.args.block r (q / 16)) g _ (record { at = λ r q row. search rules }) (
        c.equal_plane.ensures g low,
        c.equal_plane-2.ensures g low,
        c.equal_plane-3.ensures g low,
        c.equal_plane-4.ensures g low,
        c.equal_plane-5.ensures g low,
        c.equal_plane-6.ensures g low,
        c.equal_plane-7.ensures g low,
        c.equal_plane-8.ensures g low,
      );
}
