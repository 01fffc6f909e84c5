use Rattle.std.proofs.lemmas.Grind.{common_steps}
use Rattle.std.proofs.Common.{◌≡◌, ◌-◌, ◌++◌, ◌∙◌, ap, arith, drop, take, length, length-take-le, sym}
use Rattle.std.specs.Prelude.{replicate}
use Rattle.std.proofs.lemmas.List.{take_rest}
use Rattle.luks_kdf.specs.Hash.{hash_of, digest_len}
use Rattle.luks_format.specs.Checksum2.{without_checksum}
use Rattle.luks_format.proofs.validity2.agrees.Goals as goal

pub slice_bounds-digest-end : goal.slice_bounds-digest-end
slice_bounds-digest-end c = sym (length-take-le 448 c.args.header.now (omega arith))

pub returns : goal.returns
unfolding without_checksum
returns c =
    let header = c.args.header.now in
    let out = c.digest.new.out in
    let long : length out ≡ digest_len c.args.hash = c.digest.auto.out ∙ c.requires.capacity in
    let sum : out ≡ hash_of c.args.hash (take 448 header ++ replicate 64 0 ++ drop 512 header) =
    c.digest.ensures
    ∙ ap (λ zeros. hash_of c.args.hash (take 448 header ++ zeros ++ take (length header - 512) (drop 512 header)))
    c.no_checksum.ensures
    ∙ ap (λ rest. hash_of c.args.hash (take 448 header ++ replicate 64 0 ++ rest)) (take_rest header 512) in
    grind (arith, common_steps, take_rest)
