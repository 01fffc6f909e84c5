use Rattle.std.proofs.Common.{◌≡◌, ◌∙◌, ◌+◌, ◌-◌, ◌*◌, ◌/◌, ap, arith, drop, length, take}
use Rattle.luks_kdf.specs.Bytes.{joined}
use Rattle.luks_open.specs.Candidate.{material_sector}
use Rattle.luks_open.proofs.MaterialLemmas.{sectors_of_material}
use Rattle.luks_open.proofs.material.decrypt_sectors.Goals as goal

pub returns : goal.returns
returns c =
    let key = c.args.key.now in
    let image = c.args.image.now in
    let offset = c.args.offset in
    let number = c.args.number in
    let start = offset + 512 * number in
    let stored = c.copy_from_slice.new.self in
    let same : length stored ≡ length c.args.sectors.now = omega arith in
    let size : start + length c.args.sectors.now - start ≡ length stored = omega arith in
    c.decrypt_units.ensures
    ∙ (sectors_of_material key image stored offset number
    (c.copy_from_slice.ensures.after ∙ ap (λ n. take n (drop start image)) size) (omega arith)
    ∙ ap (λ n. joined (λ i. material_sector key image offset (number + i)) (n / 512)) same)
