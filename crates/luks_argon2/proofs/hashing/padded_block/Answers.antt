use Rattle.std.proofs.Common.{ℕ, List, ◌++◌, ap, length}
use Rattle.std.proofs.lemmas.List.{drop-replicate}
use Rattle.luks_argon2.proofs.hashing.padded_block.Goals as goal

pub returns : goal.returns
returns c =
    let bytes = c.args.bytes.now in
    rw c.copy_from_slice.ensures.after (ap (λ (l : List ℕ). bytes ++ l) (drop-replicate (length bytes) 128 0))
