use Rattle.std.proofs.Common.{◌≡◌, ◌∙◌, ◌/◌, ◌%◌, ◌≤◌, ap, arith, length, subst, sym, refl}
use Rattle.luks_kdf.specs.Bytes.{joined}
use Rattle.luks_format.proofs.SectorLemmas.{sector_blocks}
use Rattle.luks_volume.specs.Pieces.{sectors_encrypted}
use Rattle.luks_volume.proofs.SectorLemmas.{piece_len, sectors_more}
use Rattle.luks_volume.proofs.pieces.encrypted.Goals as goal

pub fill-init : goal.fill-init
unfolding joined
fill-init c = c.new-sectors.ensures.items

pub fill-preserved : goal.fill-preserved
fill-preserved c =
    sectors_more c.args.cipher.now c.args.first c.args.step _ c.args.plain.now c.fill.i _ _ _
    c.fill.invariant c.wrapping_number.ensures c.in_ok-push_sector.ensures

pub returns : goal.returns
unfolding sectors_encrypted
returns c =
    let at_end : c.fill.i ≡ length c.args.plain.now / c.bytes-size.result = omega arith in
    c.fill.invariant ∙ rw (at_end, c.bytes-size.ensures) refl

pub push_sector-requires : goal.push_sector-requires
push_sector-requires c =
    let size = c.args.size in
    let is = piece_len c.fill.i c.bytes-size.result c.args.plain.now c.fill-test.true ∙ c.bytes-size.ensures in
    let len = sector_blocks size in
    record {
      whole_blocks = ap (λ n. n % 16) is ∙ len.blocks;
      shortest = subst (λ n. 16 ≤ n) (sym is) (omega (arith, len.long));
      longest = subst (λ n. n ≤ 4096) (sym is) len.short;
    }
